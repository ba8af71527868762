use Rattle.std.proofs.Common.{◌≡◌, drop, None}
use Rattle.market.specs.Curves.{chained}
use Rattle.market.proofs.curves.keeps_rules.Given as goal

-- what is left to look at decides
abbrev pub invariant-loop-step : goal.invariant-loop-step
invariant-loop-step l = chained l.side l.last (drop l.step-index l.steps) ≡ chained l.side None l.steps
