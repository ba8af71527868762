use Rattle.std.proofs.Common.{◌≡◌, ◌-◌}
use Rattle.book.specs.Shown.{view}
use Rattle.dayformat.specs.Scripts.{script}
use Rattle.dayfile.specs.Runs.{text}
use Rattle.dayfile.proofs.Going.{Going}
use Rattle.dayfile.proofs.play.play.Given as goal

-- the lines so far stand, the rest of the text is that of the rest of the file, and the rule keeps its meaning
abbrev pub invariant-loop : goal.invariant-loop
invariant-loop g l =
    Going (g.R.Rule.worth l.initial.rule) (text (g.R.Rule.worth l.initial.rule) (view l.initial.book) (script 2000 l.size l.calls)) l.initial.answer l.size (view l.book) l.rest l.answer l.at (2000 - l.counter)
    × (g.R.Rule.worth l.rule ≡ g.R.Rule.worth l.initial.rule)
