-- What the test of a flat record's price finds is what its definition says. The proof that the record
-- carries is of a proposition, so that two flat records of one price are equal.
use Rattle.std.proofs.Common.{◌≡◌, Bool, true, false, ℤ, Ok, Err, refl, ap, ◌∙◌}
use Rattle.std.proofs.Math.Bool.{Bool-set}
use Rattle.std.proofs.lemmas.Bool.{both_ways}
use Rattle.market.specs.declared.refusal.Refusal.TheVariants.{OutOfRange}
use Rattle.market.specs.Units.{price_fits}
use Rattle.prices.specs.declared.flat.Flat.{Flat}
use Rattle.prices.specs.Making.{flat_by, flat_of}

flat_with : (z : ℤ) → price_fits z ≡ true → Flat
flat_with z fits = record { price = z; fits = fits }

by_true : (z : ℤ) (fits : price_fits z ≡ true) (test : Bool) (e : price_fits z ≡ test) → test ≡ true → Ok (flat_with z fits) ≡ flat_by z test e
unfolding flat_with
by_true z fits true e t = ap (λ (q : price_fits z ≡ true). Ok (flat_with z q)) (Bool-set _ _ fits e)
by_true z fits false e t = absurd (both_ways false refl t)

by_false : (z : ℤ) (test : Bool) (e : price_fits z ≡ test) → test ≡ false → Err OutOfRange ≡ flat_by z test e
by_false z true e t = absurd (both_ways true t refl)
by_false z false e t = refl

made : (z : ℤ) (fits : price_fits z ≡ true) → Ok (flat_with z fits) ≡ flat_of z
unfolding flat_of
made z fits = by_true z fits (price_fits z) refl fits

refused : (z : ℤ) → price_fits z ≡ false → Err OutOfRange ≡ flat_of z
unfolding flat_of
refused z e = by_false z (price_fits z) refl e

-- the price that was tested is the one that was given
module _ (z tested : ℤ) (same : tested ≡ z) where
  pub flat_made : (fits : price_fits tested ≡ true) → Ok (record { price = tested; fits = fits }) ≡ flat_of z
  unfolding flat_with
  flat_made fits = made tested fits ∙ ap flat_of same

  pub flat_refused : price_fits tested ≡ false → Err OutOfRange ≡ flat_of z
  flat_refused e = refused tested e ∙ ap flat_of same
