-- Finding a number among rows. Assumes nothing.
use Rattle.std.specs.Prelude.{◌≡◌, ℕ, ◌<◌, cond, List, [], ◌∷◌, length, Some, None, Option, ◌==◌, slice_index_or}
use Rattle.std.specs.List.{remove}
use Rattle.rights.specs.declared.row.Row.{Row}

-- the row of a number, if it stands
abbrev pub find : ℕ → List Row → Option Row
find n [] = None
find n (r ∷ rs) = cond (r.submission.number == n) (Some r) (find n rs)

-- the rows without that one
abbrev pub without : ℕ → List Row → List Row
without n [] = []
without n (r ∷ rs) = cond (r.submission.number == n) rs (r ∷ without n rs)

-- the place of a number tells its row, and how to take it out
abbrev pub Placed : ℕ → List Row → Option ℕ → Type 0
Placed n rs None = find n rs ≡ None
Placed n rs (Some i) = (i < length rs) × ((d : Row) → find n rs ≡ Some (slice_index_or rs i d)) × (without n rs ≡ remove rs i)
