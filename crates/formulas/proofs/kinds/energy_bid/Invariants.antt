use Rattle.std.proofs.Common.{◌≡◌, drop, pos}
use Rattle.market.specs.Bounds.{Bounded}
use Rattle.formulas.specs.Kinds.{bid_step, greatest}
use Rattle.formulas.proofs.kinds.energy_bid.Given as goal

abbrev pub invariant-loop-step : goal.invariant-loop-step
invariant-loop-step l =
    (greatest (bid_step l.factors.e1 l.d.cents) l.top (drop l.step-index l.steps) ≡ greatest (bid_step l.factors.e1 l.d.cents) (pos 0) l.steps)
    × Bounded 100000000000000 l.top
