-- What the rules of a curve say of its figures, for sums over steps and blocks. Assumes nothing.
use Rattle.std.specs.Prelude.{ℕ, ◌<◌, ◌≤◌, List, [], ◌∷◌, pos, negsuc, ◌≤ℤ◌}
use Rattle.market.specs.declared.step.Step.{Step}

-- a step in range, above the quantity before it
pub record Fit (before : ℕ) (s : Step) : Type 0 where
  pub above : before < s.quantity
  pub most : s.quantity ≤ 100000
  pub low : negsuc 999999 ≤ℤ s.price
  pub high : s.price ≤ℤ pos 1000000

-- quantities rise from the one before
abbrev pub Orderly : ℕ → List Step → Type 0
Orderly before [] = Unit {0}
Orderly before (s ∷ ss) = Fit before s × Orderly s.quantity ss
