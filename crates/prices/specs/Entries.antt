-- What a price record holds at one point, what it answers, and the range of its values. Assumes nothing.
use Rattle.std.specs.Prelude.{ℕ, Bool, cond, ◌&&◌, ℤ, pos, negsuc, ◌≤ℤ◌, Some, None, Ok, Err, Option, Result, int_le, nat_le}
use Rattle.market.specs.Units.{hour_fits}
use Rattle.prices.specs.declared.fault.Label.{Label}
use Rattle.prices.specs.declared.fault.RecordFault.{RecordFault}

-- a known point, with the value of each hour and day, if any;
-- or an unknown one, with the label and the point that the fault names
pub data Entry : Type 0 where
  known : (ℕ → ℕ → Option ℤ) → Entry
  unknown : Label → ℕ → Entry

-- days 1 to 30
abbrev pub day_fits : ℕ → Bool
day_fits d = nat_le 1 d && nat_le d 30

abbrev pub on_calendar : ℕ → ℕ → Bool
on_calendar h d = hour_fits h && day_fits d

-- off the calendar there is nothing; the fault names the hour asked, whatever it is
abbrev pub answer : Entry → ℕ → ℕ → Result (Option ℤ) RecordFault
answer (known v) h d = Ok (cond (on_calendar h d) (v h d) None)
answer (unknown l p) h d = Err (record { label = l; point = p; hour = h })

-- -4,000,000 to 4,000,000 cents
abbrev pub value_fits : ℤ → Bool
value_fits z = int_le (negsuc 3999999) z && int_le z (pos 4000000)

-- nothing, or a value in range
abbrev pub Within : Option ℤ → Type 0
Within None = Unit {0}
Within (Some z) = (negsuc 3999999 ≤ℤ z) × (z ≤ℤ pos 4000000)

-- every value is in range
abbrev pub Ranged : Entry → Type 0
Ranged (known v) = (h d : ℕ) → Within (v h d)
Ranged (unknown l p) = Unit {0}
