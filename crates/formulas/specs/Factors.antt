-- The credit factors: each from 0 to 100 hundredths. Assumes nothing.
use Rattle.std.specs.Prelude.{◌≡◌, ℕ, Bool, true, false, ◌&&◌, Ok, Err, Result, nat_le, refl}
use Rattle.std.proofs.Common.{leb-true}
use Rattle.market.specs.declared.refusal.Refusal.{Refusal}
use Rattle.market.specs.declared.refusal.Refusal.TheVariants.{OutOfRange}
use Rattle.market.specs.Facts.{left_of, right_of}
use Rattle.formulas.specs.declared.factors.Factors.{Factors}

abbrev pub factors_fit : ℕ → ℕ → ℕ → Bool
factors_fit x y z = nat_le x 100 && (nat_le y 100 && nat_le z 100)

abbrev pub factors_by : (x y z : ℕ) (test : Bool) → factors_fit x y z ≡ test → Result Factors Refusal
factors_by x y z true e = Ok (record {
  e1 = x;
  e2 = y;
  e3 = z;
  first = leb-true x 100 (left_of (nat_le x 100) _ e);
  second = leb-true y 100 (left_of (nat_le y 100) _ (right_of (nat_le x 100) _ e));
  third = leb-true z 100 (right_of (nat_le y 100) _ (right_of (nat_le x 100) _ e));
})
factors_by x y z false e = Err OutOfRange

-- the factors of exactly these hundredths, where each is in range
unfoldable pub factors_of : ℕ → ℕ → ℕ → Result Factors Refusal
factors_of x y z = factors_by x y z (factors_fit x y z) refl
