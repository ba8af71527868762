-- Every make of record stays in the range of values. Assumes nothing.
use Rattle.std.specs.Prelude.{◌≡◌, ℕ, Bool, true, false, cond, ◌&&◌, List, length, ℤ, pos, negsuc, ◌-ℤ◌, Some, None, Option, int_le, nat_le, refl}
use Rattle.std.proofs.Common.{arith}
use Rattle.std.proofs.lemmas.Int.{ints}
use Rattle.market.specs.Facts.{left_of, right_of}
use Rattle.market.specs.Units.{price_fits}
use Rattle.prices.specs.declared.fault.Label.{Label}
use Rattle.prices.specs.Entries.{Entry, known, unknown, value_fits, Within, Ranged}
use Rattle.prices.specs.Pages.{points_in, place_of, cell_at, price_in, page_entry}
use Rattle.prices.specs.Differences.{less, minus, at_least_zero, raised, floored}

value_within : (z : ℤ) → value_fits z ≡ true → Within (Some z)
value_within z e =
    let l : int_le (negsuc 3999999) z ≡ true = left_of _ _ e in
    let u : int_le z (pos 4000000) ≡ true = right_of (int_le (negsuc 3999999) z) _ e in
    (omega (arith, ints), omega (arith, ints))

-- the range of prices lies inside the range of values
pub price_within : (z : ℤ) → price_fits z ≡ true → Within (Some z)
price_within z e =
    let l : int_le (negsuc 999999) z ≡ true = left_of _ _ e in
    let u : int_le z (pos 1000000) ≡ true = right_of (int_le (negsuc 999999) z) _ e in
    (omega (arith, ints), omega (arith, ints))

-- what a test lets through
tested_within : (z : ℤ) (test : Bool) → (test ≡ true → Within (Some z)) → Within (cond test (Some z) None)
tested_within z true w = w refl
tested_within z false w = tt

less_within : (x y : Option ℤ) → Within (less x y)
less_within None y = tt
less_within (Some a) None = tt
less_within (Some a) (Some b) = tested_within (a -ℤ b) (value_fits (a -ℤ b)) (value_within (a -ℤ b))

zero_within : (z : ℤ) → Within (Some z) → Within (Some (at_least_zero z))
zero_within (pos n) w = w
zero_within (negsuc n) w = (record { le = tt }, record { le = tt })

raised_within : (x : Option ℤ) → Within x → Within (raised x)
raised_within None w = tt
raised_within (Some z) w = zero_within z w

pub minus_ranged : (e f : Entry) → Ranged (minus e f)
minus_ranged (unknown l p) f = tt
minus_ranged (known v) (unknown l p) = tt
minus_ranged (known v) (known w) = λ h d. less_within (v h d) (w h d)

pub floored_ranged : (e : Entry) → Ranged e → Ranged (floored e)
floored_ranged (known v) w = λ h d. raised_within (v h d) (w h d)
floored_ranged (unknown l p) w = tt

either_ranged : (test : Bool) (e f : Entry) → Ranged e → Ranged f → Ranged (cond test e f)
either_ranged true e f x y = x
either_ranged false e f x y = y

pub page_ranged : (l : Label) (bs : List ℕ) (p : ℕ) → Ranged (page_entry l bs p)
page_ranged l bs p =
    either_ranged (nat_le 1 p && nat_le p (points_in (length bs))) (known (λ h d. price_in (cell_at bs (place_of p h d)))) (unknown l p)
    (λ h d. tested_within (cell_at bs (place_of p h d)) (price_fits (cell_at bs (place_of p h d))) (price_within (cell_at bs (place_of p h d))))
    tt
