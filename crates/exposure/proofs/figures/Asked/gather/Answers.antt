use Rattle.std.proofs.Common.{arith}
use Rattle.std.proofs.lemmas.Result.{err_from_is_err_and}
use Rattle.exposure.proofs.Figuring.{told_all, told_fault}
use Rattle.exposure.proofs.figures.Asked.gather.Goals as goal

pub returns-in_err-days : goal.returns-in_err-days
returns-in_err-days g c =
    let q = c.args.self.now in
    let p = err_from_is_err_and c.from_residual.result c.from_residual.ensures.1 in
    rw (p.1, p.2) (told_fault (g.R.Record.meaning q.record.now q.point) q.hour _ _ c.in_err-days.ensures)

pub returns : goal.returns
returns g c =
    let p = c.args.self.now in
    told_all (g.R.Record.meaning p.record.now p.point) p.hour c.loop-day.days (c.loop-day.invariant.0, λ j low. c.loop-day.invariant.1 j (omega arith))
