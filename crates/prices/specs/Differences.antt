-- What a difference and a floor of records hold. Assumes nothing.
use Rattle.std.specs.Prelude.{cond, ℤ, pos, negsuc, ◌-ℤ◌, Some, None, Option}
use Rattle.prices.specs.Entries.{Entry, known, unknown, value_fits}

-- a value out of range is nothing
abbrev pub in_range : ℤ → Option ℤ
in_range z = cond (value_fits z) (Some z) None

-- nothing where either is nothing
abbrev pub less : Option ℤ → Option ℤ → Option ℤ
less None y = None
less (Some a) None = None
less (Some a) (Some b) = in_range (a -ℤ b)

-- the first minus the second; the first one's fault comes first
abbrev pub minus : Entry → Entry → Entry
minus (unknown l p) e = unknown l p
minus (known v) (unknown l p) = unknown l p
minus (known v) (known w) = known (λ h d. less (v h d) (w h d))

-- 0 for what is negative
abbrev pub at_least_zero : ℤ → ℤ
at_least_zero (pos n) = pos n
at_least_zero (negsuc n) = pos 0

abbrev pub raised : Option ℤ → Option ℤ
raised None = None
raised (Some z) = Some (at_least_zero z)

abbrev pub floored : Entry → Entry
floored (known v) = known (λ h d. raised (v h d))
floored (unknown l p) = unknown l p
