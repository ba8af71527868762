use Rattle.std.proofs.Common.{Ok, sym, ap, ◌∙◌}
use Rattle.std.proofs.lemmas.Result.{err_from_is_err_and}
use Rattle.exposure.specs.Protocol.{bid_worth}
use Rattle.exposure.proofs.Valuing.{back, stops, goes}
use Rattle.exposure.proofs.protocol.Protocol.energy_bid.Goals as goal

pub returns-in_err-d : goal.returns-in_err-d
unfolding bid_worth
returns-in_err-d g c =
    let p = err_from_is_err_and c.from_residual.result c.from_residual.ensures.1 in
    rw (p.1, p.2, sym c.hour.ensures) (stops _ _ _ c.in_err-d.ensures)

pub returns : goal.returns
unfolding bid_worth
returns g c =
    rw (sym c.hour.ensures, sym c.curve.ensures) (goes c.in_ok-d.d.cents _ _ _ c.in_ok-d.ensures (ap Ok (back c.energy_bid.result c.energy_bid.ensures.size ∙ c.energy_bid.ensures.value)))
