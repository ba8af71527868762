-- What a file values submissions by: rates, or factors and two pages of price cells. Assumes nothing.
use Rattle.std.specs.Prelude.{ℕ, ◌+◌, ◌-◌, ◌*◌, ◌/◌, ◌≤◌, cond, ◌&&◌, List, [], ◌∷◌, length, take, drop, ℤ, Some, None, Option, ◌==◌, nat_le, slice_index}
use Rattle.std.specs.Borrow.{Bor}
use Rattle.dayformat.specs.declared.header.LentValuation.{LentValuation}
use Rattle.dayformat.specs.declared.header.LentValuation.TheVariants.{Rates, Protocol}
use Rattle.dayformat.specs.declared.header.Valuation.{Valuation}
use Rattle.dayformat.specs.declared.header.Valuation.TheVariants.{Rates as PlacedRates, Protocol as PlacedProtocol}
use Rattle.dayformat.specs.Bytes.{le4_signed}

-- rates by kind; or e1, e2 and e3, the day-ahead page and the real-time page
pub data Valued : Type 0 where
  by_rates : List ℤ → Valued
  by_protocol : ℕ → ℕ → ℕ → List ℕ → List ℕ → Valued

-- four rates, by kind
abbrev pub rates_of : List ℕ → List ℤ
rates_of bs = le4_signed bs 0 ∷ le4_signed bs 4 ∷ le4_signed bs 8 ∷ le4_signed bs 12 ∷ []

-- two pages of so many points, each point 2,880 bytes
abbrev pub paged : ℕ → ℕ → ℕ → ℕ → List ℕ → Valued
paged e1 e2 e3 points bs = by_protocol e1 e2 e3 (take (2880 * points) bs) (take (2880 * points) (drop (2880 * points) bs))

-- behind rule byte 1: the rates, and what follows them
abbrev pub rates_valued : List ℕ → Option (Valued × List ℕ)
rates_valued bs = cond (nat_le 16 (length bs)) (Some (by_rates (rates_of bs), drop 16 bs)) None

-- behind rule byte 2: the factors, 1 to 8 points and the pages, and what follows them
abbrev pub pages_valued : List ℕ → Option (Valued × List ℕ)
pages_valued bs =
    cond (nat_le 4 (length bs) && ((nat_le 1 (slice_index bs 3) && nat_le (slice_index bs 3) 8) && nat_le (4 + 5760 * slice_index bs 3) (length bs)))
    (Some (paged (slice_index bs 0) (slice_index bs 1) (slice_index bs 2) (slice_index bs 3) (drop 4 bs), drop (4 + 5760 * slice_index bs 3) bs)) None

-- by the rule byte
abbrev pub valued_by : List ℕ → Option (Valued × List ℕ)
valued_by bs = cond (slice_index bs 0 == 1) (rates_valued (drop 1 bs)) (cond (slice_index bs 0 == 2) (pages_valued (drop 1 bs)) None)

-- what a valuation that the file lends stands for, and with it the bytes that follow
abbrev pub lent : LentValuation → Valued
lent (Rates prices) = by_rates prices
lent (Protocol factors day_ahead real_time) =
    by_protocol (slice_index factors 0) (slice_index factors 1) (slice_index factors 2) day_ahead.now real_time.now

abbrev pub valued_of : LentValuation × Bor (List ℕ) → Valued × List ℕ
valued_of p = (lent p.0, p.1.now)

-- what one by places in a file stands for
abbrev pub meant : List ℕ → Valuation → Valued
meant file (PlacedRates prices) = by_rates prices
meant file (PlacedProtocol factors points pages) = paged (slice_index factors 0) (slice_index factors 1) (slice_index factors 2) points (drop pages file)

-- by places in a file whose calls begin at n
abbrev pub placed : ℕ → LentValuation → Valuation
placed n (Rates prices) = PlacedRates prices
placed n (Protocol factors day_ahead real_time) = PlacedProtocol factors (length day_ahead.now / 2880) (n - 2 * length day_ahead.now)

-- that its pages lie inside of n bytes
abbrev pub Inside : ℕ → Valuation → Type 0
Inside n (PlacedRates prices) = Unit {0}
Inside n (PlacedProtocol factors points pages) = pages + 5760 * points ≤ n
