-- The percentile of the elements present among some days, worked out. Assumes nothing.
use Rattle.std.specs.Prelude.{ℕ, Bool, true, cond, not, ◌&&◌, ◌||◌, List, [], ◌∷◌, Some, None, Err, Option, Result, nat_le}
use Rattle.std.specs.Option.{ok_or}
use Rattle.ranking.specs.declared.fault.NoDays.{NoDays}
use Rattle.ranking.specs.Counts.{tally, present, share}

-- the element of the first day of which the test holds
abbrev pub first_passing : {E : Type 0} → (E → Bool) → List (Option E) → Option E
first_passing f [] = None
first_passing f (None ∷ xs) = first_passing f xs
first_passing f (Some x ∷ xs) = cond (f x) (Some x) (first_passing f xs)

-- whether the test holds of each element present
abbrev pub every : {E : Type 0} → (E → Bool) → List (Option E) → Bool
every f [] = true
every f (None ∷ xs) = every f xs
every f (Some x ∷ xs) = f x && every f xs

-- whether at least k elements do not come after x
abbrev pub has_enough : {E : Type 0} → (E → E → Bool) → List (Option E) → ℕ → E → Bool
has_enough le xs k x = nat_le k (tally (λ y. le y x) xs)

-- whether x is the least element that has enough
unfoldable pub is_least : {E : Type 0} → (E → E → Bool) → List (Option E) → ℕ → E → Bool
is_least le xs k x = has_enough le xs k x && every (λ y. not (has_enough le xs k y) || le x y) xs

-- whether p is 1 to 100
abbrev pub is_percent : ℕ → Bool
is_percent p = nat_le 1 p && nat_le p 100

-- the first day's element that is the least with p percent of the elements, or the fault
unfoldable pub percentile_of : {E : Type 0} → (E → E → Bool) → List (Option E) → ℕ → Result E NoDays
percentile_of le xs p =
    cond (is_percent p) (ok_or (first_passing (is_least le xs (share p (present xs))) xs) (record {})) (Err (record {}))
