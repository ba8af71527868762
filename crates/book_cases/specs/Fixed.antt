-- The meaning of a rule of one value, and why it stays in a rule's range. Assumes nothing.
use Rattle.std.specs.Prelude.{ℕ, Bool, true, false, cond, ℤ, pos, negsuc, ◌≤ℤ◌, Ok, Err, Result, nat_lt}
use Rattle.std.proofs.Common.{arith}
use Rattle.std.proofs.lemmas.Int.{ints}
use Rattle.std.specs.Int.{int_max, int_min}
use Rattle.market.specs.declared.submission.Submission.{Submission}
use Rattle.market.specs.Reading.{quantity_of}
use Rattle.exposure.specs.declared.fault.RuleFault.{RuleFault}
use Rattle.exposure.specs.declared.fault.RuleFault.TheVariants.{CoverAboveQuantity}
use Rattle.exposure.specs.Worth.{Within}

-- brought into -10,000 to 10,000
abbrev pub clamped : ℤ → ℤ
clamped x = int_max (negsuc 9999) (int_min x (pos 10000))

-- one value for every submission; a cover above the quantity is a fault
abbrev pub fixed_worth : ℤ → Submission → ℕ → Result ℤ RuleFault
fixed_worth x s cover = cond (nat_lt (quantity_of s) cover) (Err CoverAboveQuantity) (Ok x)

by_cover : (t : Bool) (x : ℤ) → negsuc 9999 ≤ℤ x → x ≤ℤ pos 10000 → Within (cond t (Err CoverAboveQuantity) (Ok x))
by_cover true x low high = tt
by_cover false x low high = record { low = omega (arith, ints); high = omega (arith, ints) }

pub fixed_within : (x : ℤ) → negsuc 9999 ≤ℤ x → x ≤ℤ pos 10000 → (s : Submission) (cover : ℕ) → Within (fixed_worth x s cover)
fixed_within x low high s cover = by_cover (nat_lt (quantity_of s) cover) x low high
