-- Products of a bounded number, and how the code's arrive.
use Rattle.std.proofs.Common.{◌≡◌, ℤ, ◌*ℤ◌, sym, ◌∙◌, subst, arith, w64, SFits, to_z, of_z}
use Rattle.std.proofs.lemmas.Int.{ints, to_z-of_z}
use Rattle.market.specs.Bounds.{Bounded}

-- what lies within 10^15 fits 64 bits
pub bounded_fits : (z : ℤ) → Bounded 1000000000000000 z → SFits w64 z
bounded_fits z b = omega (arith, ints, b.low, b.high)

-- a product of x and y, which stand for a and b
module _ (x y a b : ℤ) (p : x ≡ a) (q : y ≡ b) (h : Bounded 1000000000000000 (a *ℤ b)) where
  same : a *ℤ b ≡ x *ℤ y
  same = λ i. sym p i *ℤ sym q i

  pub product_fits : SFits w64 (x *ℤ y)
  product_fits = subst (λ (z : ℤ). SFits w64 z) same (bounded_fits (a *ℤ b) h)

  pub product_is : to_z w64 (of_z w64 (x *ℤ y)) ≡ a *ℤ b
  product_is = to_z-of_z w64 (x *ℤ y) product_fits ∙ sym same
