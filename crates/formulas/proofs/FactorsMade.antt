-- Factors are made just where their test passes; equal hundredths make equal factors, since the proofs
-- that they carry are of propositions.
use Rattle.std.proofs.Common.{◌≡◌, ℕ, ◌≤◌, Bool, true, false, ◌&&◌, leb, Ok, Err, refl, ap, ◌∙◌, le-leb, leb-true}
use Rattle.std.proofs.Math.Bridge.{le_prop}
use Rattle.std.proofs.lemmas.Bool.{both_ways}
use Rattle.market.specs.declared.refusal.Refusal.TheVariants.{OutOfRange}
use Rattle.market.specs.Facts.{left_of, right_of}
use Rattle.formulas.specs.declared.factors.Factors.{Factors}
use Rattle.formulas.specs.Factors.{factors_fit, factors_by, factors_of}

both_true : (a b : Bool) → a ≡ true → b ≡ true → (a && b) ≡ true
both_true a b p q = rw (p, q)

module _ (x y z : ℕ) where
  factors_same : (a a' : x ≤ 100) (b b' : y ≤ 100) (c c' : z ≤ 100) →
      ◌≡◌ {A = Factors} (record { e1 = x; e2 = y; e3 = z; first = a; second = b; third = c }) (record { e1 = x; e2 = y; e3 = z; first = a'; second = b'; third = c' })
  factors_same a a' b b' c c' =
      ap (λ (p : x ≤ 100). record { e1 = x; e2 = y; e3 = z; first = p; second = b; third = c }) (le_prop a a')
      ∙ ap (λ (p : y ≤ 100). record { e1 = x; e2 = y; e3 = z; first = a'; second = p; third = c }) (le_prop b b')
      ∙ ap (λ (p : z ≤ 100). record { e1 = x; e2 = y; e3 = z; first = a'; second = b'; third = p }) (le_prop c c')

  fits : (test : Bool) → factors_fit x y z ≡ test → test ≡ true → (x ≤ 100) × (y ≤ 100) × (z ≤ 100)
  fits test e t =
      let all = e ∙ t in
      (leb-true x 100 (left_of (leb x 100) _ all), leb-true y 100 (left_of (leb y 100) _ (right_of (leb x 100) _ all)), leb-true z 100 (right_of (leb y 100) _ (right_of (leb x 100) _ all)))

  by_made : (a : x ≤ 100) (b : y ≤ 100) (c : z ≤ 100) (test : Bool) (e : factors_fit x y z ≡ test) →
      Ok (record { e1 = x; e2 = y; e3 = z; first = a; second = b; third = c }) ≡ factors_by x y z test e
  by_made a b c true e = ap Ok (factors_same a _ b _ c _)
  by_made a b c false e = absurd (both_ways _ e (both_true _ _ (le-leb x 100 a) (both_true _ _ (le-leb y 100 b) (le-leb z 100 c))))

  by_refused : ((x ≤ 100) × (y ≤ 100) × (z ≤ 100) → ⊥) → (test : Bool) (e : factors_fit x y z ≡ test) → Err OutOfRange ≡ factors_by x y z test e
  by_refused no_fit true e = absurd (no_fit (fits true e refl))
  by_refused no_fit false e = refl

  pub factors_made : (a : x ≤ 100) (b : y ≤ 100) (c : z ≤ 100) → Ok (record { e1 = x; e2 = y; e3 = z; first = a; second = b; third = c }) ≡ factors_of x y z
  unfolding factors_of
  factors_made a b c = by_made a b c (factors_fit x y z) refl

  pub factors_refused : ((x ≤ 100) × (y ≤ 100) × (z ≤ 100) → ⊥) → Err OutOfRange ≡ factors_of x y z
  unfolding factors_of
  factors_refused h = by_refused h (factors_fit x y z) refl
