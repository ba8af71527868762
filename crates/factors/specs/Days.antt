-- The ratios of a day. Assumes nothing.
use Rattle.std.specs.Prelude.{zero, suc, Bool, cond, ◌&&◌, ℤ, pos, negsuc, ◌-ℤ◌, Some, None, Option, int_le}
use Rattle.factors.specs.declared.days.Dollars.{Dollars}
use Rattle.factors.specs.declared.days.Quantities.{Quantities}
use Rattle.factors.specs.declared.ratio.Ratio.{Ratio}
use Rattle.factors.specs.Ratios.{over_next, ratio_one, ratio_zero}

-- -2,000,000,000 to 2,000,000,000 dollars
abbrev pub dollars_fit : ℤ → Bool
dollars_fit z = int_le (negsuc 1999999999) z && int_le z (pos 2000000000)

-- 0 to 2,000,000,000 tenths of a MW
abbrev pub quantity_fits : ℤ → Bool
quantity_fits z = int_le (pos 0) z && int_le z (pos 2000000000)

-- (bids − offers)/bids brought into 0 to 1, where bids below 0 turn both signs; 1 at no bids
unfoldable pub first_of : ℤ → ℤ → Ratio
first_of (pos zero) offers = ratio_one
first_of (pos (suc n)) offers = over_next (pos (suc n) -ℤ offers) n
first_of (negsuc n) offers = over_next (offers -ℤ negsuc n) n

-- the lesser of bids and offers, over offers; 0 at no offers (offers below 0 are out of range)
unfoldable pub second_of : ℤ → ℤ → Ratio
second_of bids (pos zero) = ratio_zero
second_of bids (pos (suc n)) = over_next bids n
second_of bids (negsuc n) = ratio_zero

-- the first ratio of a day, unless a figure is out of range
abbrev pub first_ratio : Dollars → Option Ratio
first_ratio d =
    cond (dollars_fit d.bids && dollars_fit d.offers) (Some (first_of d.bids d.offers)) None

-- the second ratio of a day, unless a figure is out of range
abbrev pub second_ratio : Quantities → Option Ratio
second_ratio q =
    cond (quantity_fits q.bids && quantity_fits q.offers) (Some (second_of q.bids q.offers)) None
