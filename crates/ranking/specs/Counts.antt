-- Counts of the elements present among some days, and the share of them that a percentile asks for. Assumes nothing.
use Rattle.std.specs.Prelude.{ℕ, ◌+◌, ◌*◌, ◌/◌, Bool, true, cond, List, [], ◌∷◌, Some, None, Option}

-- how many days have an element of which the test holds
abbrev pub tally : {E : Type 0} → (E → Bool) → List (Option E) → ℕ
tally f [] = 0
tally f (None ∷ xs) = tally f xs
tally f (Some x ∷ xs) = cond (f x) 1 0 + tally f xs

-- how many days have an element
abbrev pub present : {E : Type 0} → List (Option E) → ℕ
present xs = tally (λ _. true) xs

-- p·n/100 rounded up
abbrev pub share : ℕ → ℕ → ℕ
share p n = (p * n + 99) / 100
