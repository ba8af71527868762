use Rattle.std.proofs.Common.{Ok, sym, ap, ◌∙◌}
use Rattle.std.proofs.lemmas.Result.{err_from_is_err_and}
use Rattle.exposure.specs.Protocol.{three_part_worth}
use Rattle.exposure.proofs.Valuing.{back, stops, goes}
use Rattle.exposure.proofs.protocol.Protocol.three_part_offer.Goals as goal

pub returns-in_err-y : goal.returns-in_err-y
unfolding three_part_worth
returns-in_err-y g c =
    let p = err_from_is_err_and c.from_residual.result c.from_residual.ensures.1 in
    rw (p.1, p.2, sym c.hour.ensures) (stops _ _ _ c.in_err-y.ensures)

pub returns-in_err-z : goal.returns-in_err-z
unfolding three_part_worth
returns-in_err-z g c =
    let p = err_from_is_err_and c.from_residual-in_err-z.result c.from_residual-in_err-z.ensures.1 in
    rw (p.1, p.2, sym c.hour.ensures) (goes c.in_ok-y.y.cents _ _ _ c.in_ok-y.ensures (stops _ _ _ c.in_err-z.ensures))

pub returns : goal.returns
unfolding three_part_worth
returns g c =
    rw (sym c.hour.ensures, sym c.curve.ensures)
    (goes c.in_ok-y.y.cents _ _ _ c.in_ok-y.ensures
    (goes c.in_ok-z.z.cents _ _ _ c.in_ok-z.ensures
    (ap Ok (back c.three_part_offer.result c.three_part_offer.ensures.size ∙ c.three_part_offer.ensures.value))))
