-- Exposures of rows, and their sum. Assumes nothing.
use Rattle.std.specs.Prelude.{Bool, true, ◌&&◌, List, [], ◌∷◌, ℤ, pos, ◌+ℤ◌, neg_ℤ, int_le}
use Rattle.rights.specs.declared.row.Row.{Row}

abbrev pub sum : List Row → ℤ
sum [] = pos 0
sum (r ∷ rs) = r.exposure +ℤ sum rs

-- within 10^14 of 0
abbrev pub grains : ℤ → Bool
grains x = int_le (neg_ℤ (pos 100000000000000)) x && int_le x (pos 100000000000000)

abbrev pub small : List Row → Bool
small [] = true
small (r ∷ rs) = grains r.exposure && small rs
