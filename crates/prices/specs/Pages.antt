-- What a page of cells holds, over the bytes of its file. Assumes nothing.
use Rattle.std.specs.Prelude.{ℕ, ◌+◌, ◌-◌, ◌*◌, ◌/◌, min, cond, ◌&&◌, List, length, ℤ, Some, None, Option, nat_le, slice_index}
use Rattle.std.specs.Int.{w32}
use Rattle.std.proofs.Common.{to_z}
use Rattle.market.specs.Units.{price_fits}
use Rattle.prices.specs.declared.fault.Label.{Label}
use Rattle.prices.specs.Entries.{Entry, known, unknown}

-- a point for each full stretch of 2,880 bytes, at most 8
abbrev pub points_in : ℕ → ℕ
points_in n = min 8 (n / 2880)

-- where the cell of a point, an hour and a day begins
abbrev pub place_of : ℕ → ℕ → ℕ → ℕ
place_of p h d = 2880 * (p - 1) + (120 * (h - 1) + 4 * (d - 1))

-- the signed number of 32 bits at a place, its low byte first
abbrev pub cell_at : List ℕ → ℕ → ℤ
cell_at bs i = to_z w32 (slice_index bs i + slice_index bs (i + 1) * 256 + slice_index bs (i + 2) * 65536 + slice_index bs (i + 3) * 16777216)

-- a cell out of the range of prices is nothing
abbrev pub price_in : ℤ → Option ℤ
price_in z = cond (price_fits z) (Some z) None

abbrev pub page_entry : Label → List ℕ → ℕ → Entry
page_entry l bs p =
    cond (nat_le 1 p && nat_le p (points_in (length bs)))
    (known (λ h d. price_in (cell_at bs (place_of p h d))))
    (unknown l p)
