-- What it is for an answer to be the percentile of the elements present among some days. Assumes nothing.
use Rattle.std.specs.Prelude.{◌≡◌, ℕ, ◌<◌, ◌≤◌, Bool, T, ◌⊎◌, List, length, Some, None, Ok, Err, Option, Result, slice_index_or}
use Rattle.ranking.specs.declared.fault.NoDays.{NoDays}
use Rattle.ranking.specs.Counts.{tally, present, share}

-- what the day d has
abbrev pub on_day : {E : Type 0} → List (Option E) → ℕ → Option E
on_day xs d = slice_index_or xs d None

-- at least k elements do not come after x
abbrev pub Enough : {E : Type 0} → (E → E → Bool) → List (Option E) → ℕ → E → Type 0
Enough le xs k x = k ≤ tally (λ y. le y x) xs

-- x, of the day d, is the least element present that has enough, and of its equals the earliest day's
pub record Least {E : Type 0} (le : E → E → Bool) (xs : List (Option E)) (k : ℕ) (d : ℕ) (x : E) : Type 0 where
  pub within : d < length xs
  pub stands : on_day xs d ≡ Some x
  pub enough : Enough le xs k x
  pub least : (e : ℕ) (y : E) → on_day xs e ≡ Some y → Enough le xs k y → T (le x y)
  pub earliest : (e : ℕ) (y : E) → e < d → on_day xs e ≡ Some y → T (le x y) → T (le y x) → ⊥

-- x answers: p is 1 to 100, and x is the least that has p percent of the elements, rounded up
pub record Answered {E : Type 0} (le : E → E → Bool) (xs : List (Option E)) (p : ℕ) (x : E) : Type 0 where
  pub from_one : 1 ≤ p
  pub to_hundred : p ≤ 100
  pub day : ℕ
  pub answers : Least le xs (share p (present xs)) day x

-- nothing answers: no element is present, or p is outside 1 to 100
abbrev pub Unanswered : {E : Type 0} → List (Option E) → ℕ → Type 0
Unanswered xs p = (present xs ≡ 0) ⊎ ((p < 1) ⊎ (100 < p))

-- an answer that there is, or the fault where there is none
abbrev pub Percentile : {E : Type 0} → (E → E → Bool) → List (Option E) → ℕ → Result E NoDays → Type 0
Percentile le xs p (Ok x) = Answered le xs p x
Percentile le xs p (Err f) = Unanswered xs p
