-- Exact fractions from 0 to 1: how they are made, ranked and rounded. Assumes nothing.
use Rattle.std.specs.Prelude.{ℕ, ◌+◌, ◌*◌, ◌/◌, ◌<◌, ◌≤◌, min, Bool, ℤ, pos, negsuc, nat_le}
use Rattle.std.specs.declared.cmp.Ordering.{Ordering}
use Rattle.std.specs.Ordering.{nat_cmp}
use Rattle.std.proofs.Common.{div-lt_iff_lt-mul, arith}
use Rattle.factors.specs.declared.ratio.Ratio.{Ratio}

-- the top of a fraction with this bottom, brought into 0 to 1
abbrev pub clipped : ℤ → ℕ → ℕ
clipped (pos top) bottom = min top bottom
clipped (negsuc top) bottom = 0

-- so that the fraction is at most 1
pub clipped_within : (top : ℤ) (bottom : ℕ) → clipped top bottom ≤ bottom
clipped_within (pos top) bottom = omega arith
clipped_within (negsuc top) bottom = omega arith

-- the fraction of this top and the bottom n + 1, brought into 0 to 1
abbrev pub over_next : ℤ → ℕ → Ratio
over_next top n = record {
  top = clipped top (n + 1);
  bottom = n + 1;
  proper = omega arith;
  within = clipped_within top (n + 1);
}

-- 1/1
abbrev pub ratio_one : Ratio
ratio_one = record { top = 1; bottom = 1; proper = omega arith; within = omega arith }

-- 0/1
abbrev pub ratio_zero : Ratio
ratio_zero = record { top = 0; bottom = 1; proper = omega arith; within = omega arith }

-- whether x is at most y: by cross-multiplication, as neither bottom is 0
abbrev pub not_above : Ratio → Ratio → Bool
not_above x y = nat_le (x.top * y.bottom) (y.top * x.bottom)

-- how x compares with y, likewise
abbrev pub crossed : Ratio → Ratio → Ordering
crossed x y = nat_cmp (x.top * y.bottom) (y.top * x.bottom)

-- 100 x + 1/2, which is (200 top + bottom)/(2 bottom), rounded down
abbrev pub in_hundredths : Ratio → ℕ
in_hundredths x = (200 * x.top + x.bottom) / (2 * x.bottom)

-- a fraction of at most 1 is at most 100 hundredths: 200 top + bottom is at most 201 bottom, below 101 times 2 bottom
pub hundred_at_most : (top bottom : ℕ) → 0 < bottom → top ≤ bottom → (200 * top + bottom) / (2 * bottom) ≤ 100
hundred_at_most top bottom proper within =
    let l : (200 * top + bottom) / (2 * bottom) < 101 = (div-lt_iff_lt-mul {k = 2 * bottom} {x = 200 * top + bottom} {y = 101} (omega arith)).1 (omega arith) in
    omega arith
