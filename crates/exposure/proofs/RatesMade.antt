-- Rates are made just where each price is in range.
use Rattle.std.proofs.Common.{◌≡◌, ℕ, zero, suc, ◌<◌, Bool, true, false, List, length, get_or, ℤ, pos, Ok, Err, ◌↔◌, true≢false, sym, refl, ap, arith}
use Rattle.std.proofs.lemmas.Bool.{and_from, false_from_ne_true}
use Rattle.std.specs.Bool.{IsTrue}
use Rattle.std.specs.List.{EachIndex}
use Rattle.market.specs.Facts.{left_of, right_of}
use Rattle.market.specs.Units.{price_fits}
use Rattle.std.proofs.Math.Bool.{Bool-set}
use Rattle.std.proofs.lemmas.Bool.{both_ways}
use Rattle.market.specs.declared.refusal.Refusal.TheVariants.{OutOfRange}
use Rattle.exposure.specs.Ranges.{rates_fit}
use Rattle.exposure.specs.Rates.{rates_by, rates_of}

-- the price of a kind, by its place
abbrev fits_at : List ℤ → ℕ → Bool
fits_at ps k = price_fits (get_or ps k (pos 0))

each_of : (ps : List ℤ) → rates_fit ps ≡ true → (k : ℕ) → k < 4 → fits_at ps k ≡ true
each_of ps t zero h = left_of (fits_at ps 0) _ t
each_of ps t (suc zero) h = left_of (fits_at ps 1) _ (right_of (fits_at ps 0) _ t)
each_of ps t (suc (suc zero)) h = left_of (fits_at ps 2) _ (right_of (fits_at ps 1) _ (right_of (fits_at ps 0) _ t))
each_of ps t (suc (suc (suc zero))) h = right_of (fits_at ps 2) _ (right_of (fits_at ps 1) _ (right_of (fits_at ps 0) _ t))
each_of ps t (suc (suc (suc (suc k)))) h = absurd (omega arith)

fit_from_each : (ps : List ℤ) → length ps ≡ 4 → EachIndex ps (λ k. price_fits (get_or ps k (pos 0)) ≡ true) → rates_fit ps ≡ true
fit_from_each ps long each =
    and_from (fits_at ps 0) _ (each 0 (omega arith)) (and_from (fits_at ps 1) _ (each 1 (omega arith)) (and_from (fits_at ps 2) (fits_at ps 3) (each 2 (omega arith)) (each 3 (omega arith))))

not_fit : (ps : List ℤ) → length ps ≡ 4 → (EachIndex ps (λ k. price_fits (get_or ps k (pos 0)) ≡ true) → ⊥) → rates_fit ps ≡ false
not_fit ps long none = false_from_ne_true (rates_fit ps) (λ t. none (λ k h. each_of ps t k (omega arith)))

pub fit_by : (ps : List ℤ) → length ps ≡ 4 → (b : Bool) → (IsTrue b ↔ EachIndex ps (λ k. price_fits (get_or ps k (pos 0)) ≡ true)) → b ≡ rates_fit ps
fit_by ps long true e = sym (fit_from_each ps long (e.0 refl))
fit_by ps long false e = sym (not_fit ps long (λ each. true≢false (sym (e.1 each))))

module _ (ps : List ℤ) where
  by_true : (fit : rates_fit ps ≡ true) (test : Bool) (e : rates_fit ps ≡ test) → test ≡ true → Ok (record { prices = ps; fit = fit }) ≡ rates_by ps test e
  by_true fit true e t = ap (λ (f : rates_fit ps ≡ true). Ok (record { prices = ps; fit = f })) (Bool-set _ _ fit e)
  by_true fit false e t = absurd (both_ways false refl t)

  by_false : (test : Bool) (e : rates_fit ps ≡ test) → test ≡ false → Err OutOfRange ≡ rates_by ps test e
  by_false true e t = absurd (both_ways true t refl)
  by_false false e t = refl

  pub rates_made : (fit : rates_fit ps ≡ true) → Ok (record { prices = ps; fit = fit }) ≡ rates_of ps
  unfolding rates_of
  rates_made fit = by_true fit (rates_fit ps) refl fit

  pub rates_refused : rates_fit ps ≡ false → Err OutOfRange ≡ rates_of ps
  unfolding rates_of
  rates_refused t = by_false (rates_fit ps) refl t
