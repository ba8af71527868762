-- The days so far are as the record answers them.
use Rattle.exposure.proofs.Figuring.{Told}
use Rattle.exposure.proofs.figures.Asked.gather.Given as goal

abbrev pub invariant-loop-day : goal.invariant-loop-day
invariant-loop-day g l = Told (g.R.Record.meaning l.self.record.now l.self.point) l.self.hour l.days l.day
