-- The ratios in front are those of the days, so that their percentile is the one that is defined.
use Rattle.std.proofs.Common.{length, take, Ok, Err, ◌∙◌, ap, inl, inr, arith}
use Rattle.std.proofs.lemmas.Result.{err_from_is_err_and}
use Rattle.factors.proofs.Counted.{factor_none, factor_is}
use Rattle.factors.proofs.factor.factor.Goals as goal

pub returns-then-days-lt1 : goal.returns-then-days-lt1
returns-then-days-lt1 g c =
    factor_none g.D.Rated.rating c.args.days.now c.args.p (elim c.then-days-lt1.either [ inl h ↦ inl h | inr h ↦ inr h.1 ])

pub returns-in_err-ratio : goal.returns-in_err-ratio
returns-in_err-ratio g c =
    let front = take (length c.args.days.now) c.gathered-ratios.result in
    let p = err_from_is_err_and c.from_residual.result c.from_residual.ensures.1 in
    rw (p.1, p.2) (factor_is g.D.Rated.rating c.args.days.now c.args.p front (Err c.in_err-ratio.field-0.0) (omega arith) (omega arith) c.gathered-ratios.ensures c.in_err-ratio.ensures.is)

pub returns : goal.returns
returns g c =
    let front = take (length c.args.days.now) c.gathered-ratios.result in
    ap Ok c.in_hundredths.ensures.value ∙ factor_is g.D.Rated.rating c.args.days.now c.args.p front (Ok c.in_ok-ratio.ratio) (omega arith) (omega arith) c.gathered-ratios.ensures c.in_ok-ratio.ensures.is
