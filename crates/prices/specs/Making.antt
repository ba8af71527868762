-- The flat record that a price makes, or the refusal of a price out of range. Assumes nothing.
use Rattle.std.specs.Prelude.{◌≡◌, Bool, true, false, ℤ, Ok, Err, Result, refl}
use Rattle.market.specs.declared.refusal.Refusal.{Refusal}
use Rattle.market.specs.declared.refusal.Refusal.TheVariants.{OutOfRange}
use Rattle.market.specs.Units.{price_fits}
use Rattle.prices.specs.declared.flat.Flat.{Flat}

abbrev pub flat_by : (z : ℤ) (test : Bool) → price_fits z ≡ test → Result Flat Refusal
flat_by z true e = Ok (record { price = z; fits = e })
flat_by z false e = Err OutOfRange

-- a record of exactly this price, where it is in range
unfoldable pub flat_of : ℤ → Result Flat Refusal
flat_of z = flat_by z (price_fits z) refl
