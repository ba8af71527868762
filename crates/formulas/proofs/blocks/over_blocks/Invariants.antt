use Rattle.std.proofs.Common.{◌≡◌, ◌*◌, ◌≤◌, drop, ◌+ℤ◌}
use Rattle.market.specs.Orders.{Orderly}
use Rattle.market.specs.Bounds.{Bounded}
use Rattle.formulas.specs.Kinds.{over_blocks}
use Rattle.formulas.proofs.blocks.over_blocks.Given as goal

-- the sum so far and what is left give the whole
abbrev pub invariant-loop-step : goal.invariant-loop-step
invariant-loop-step g l =
    (l.sum +ℤ over_blocks (g.B.Terms.adds l.terms) l.before (drop l.step-index l.steps) ≡ over_blocks (g.B.Terms.adds l.terms) 0 l.steps)
    × Bounded (1000000000 * l.before) l.sum
    × Orderly l.before (drop l.step-index l.steps)
    × (l.before ≤ 100000)
