-- The record's fault comes first; then the figure is the percentile, or the fault without one.
use Rattle.std.proofs.Common.{◌≡◌, ℤ, Ok, ap, ◌∙◌, arith, w32, to_z, of_z}
use Rattle.std.proofs.lemmas.Result.{err_from_is_err_and}
use Rattle.std.proofs.lemmas.Int.{ints, to_z-of_z}
use Rattle.market.specs.Bounds.{Bounded}
use Rattle.formulas.proofs.Backs.{fits32}
use Rattle.exposure.proofs.Figuring.{figure_fault, figure_or, figure_none, figure_in, some_percent, no_percent, ok_from_or}
use Rattle.exposure.proofs.figures.Asked.figure.Goals as goal

back : (x : ℤ) → Bounded 4000000 x → to_z w32 (of_z w32 x) ≡ x
back x b = to_z-of_z w32 x (fits32 4000000 x b (omega arith))

pub returns-in_err-days : goal.returns-in_err-days
returns-in_err-days g c =
    let p = err_from_is_err_and c.from_residual.result c.from_residual.ensures.1 in
    rw (p.1, p.2) (figure_fault c.args.letter _ c.args.self.now.point (g.R.Record.meaning c.args.self.now.record.now c.args.self.now.point) c.args.self.now.hour _ c.in_err-days.ensures)

pub returns-in_err-percent : goal.returns-in_err-percent
returns-in_err-percent g c =
    let q = c.args.self.now in
    let e = g.R.Record.meaning q.record.now q.point in
    let letter = c.args.letter in
    let p = err_from_is_err_and c.from_residual-in_err-percent.result c.from_residual-in_err-percent.ensures.1 in
    let none = no_percent c.args.percent _ _ c.in_err-percent.ensures.value in
    rw (p.1, p.2, none.1, none.0) (figure_none letter q.point e q.hour c.in_ok-days.days c.in_ok-days.ensures)

pub returns-in_err-cents : goal.returns-in_err-cents
returns-in_err-cents g c =
    let q = c.args.self.now in
    let e = g.R.Record.meaning q.record.now q.point in
    let p = err_from_is_err_and c.from_residual-in_err-cents.result c.from_residual-in_err-cents.ensures.1 in
    let some = some_percent c.args.percent _ _ c.in_ok-percent.ensures.value in
    rw (p.1, p.2, some) (c.in_err-cents.ensures ∙ figure_or c.args.letter c.in_ok-percent.percent q.point e q.hour c.in_ok-days.days c.percentile.result c.in_ok-days.ensures c.percentile.ensures.is)

pub invariant_of-result : goal.invariant_of-result
invariant_of-result g c =
    let q = c.args.self.now in
    let x = c.in_ok-cents.cents in
    let found = ok_from_or c.percentile.result _ x c.in_ok-cents.ensures in
    let b = figure_in (g.R.Record.meaning q.record.now q.point) (g.R.Record.ranged q.record.now q.point) q.hour c.in_ok-percent.percent c.in_ok-days.days x c.in_ok-days.ensures (found ∙ c.percentile.ensures.is) in
    let same = back x b in
    record { low = omega (arith, ints, b.low, same); high = omega (arith, ints, b.high, same) }

pub returns : goal.returns
returns g c =
    let q = c.args.self.now in
    let e = g.R.Record.meaning q.record.now q.point in
    let x = c.in_ok-cents.cents in
    let found = ok_from_or c.percentile.result _ x c.in_ok-cents.ensures in
    let b = figure_in e (g.R.Record.ranged q.record.now q.point) q.hour c.in_ok-percent.percent c.in_ok-days.days x c.in_ok-days.ensures (found ∙ c.percentile.ensures.is) in
    let some = some_percent c.args.percent _ _ c.in_ok-percent.ensures.value in
    rw some (ap Ok (back x b) ∙ c.in_ok-cents.ensures ∙ figure_or c.args.letter c.in_ok-percent.percent q.point e q.hour c.in_ok-days.days c.percentile.result c.in_ok-days.ensures c.percentile.ensures.is)
