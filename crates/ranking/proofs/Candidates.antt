-- A candidate fits if at least k elements do not come after it and fewer than k come before it: then it
-- is the least that has enough, and one fits wherever k is 1 to the number present.
use Rattle.std.proofs.Common.{◌≡◌, ℕ, zero, suc, ◌<◌, ◌≤◌, Bool, true, false, not, T, leb, List, [], ◌∷◌, length, Some, None, Option, refl, inl, inr, arith, le→leb, leb→le}
use Rattle.std.proofs.Math.Dec.{nleb→lt, not_T}
use Rattle.std.proofs.Math.Facts.{T_not}
use Rattle.ranking.specs.Order.{TotalOrder}
use Rattle.ranking.specs.Counts.{tally, present}
use Rattle.ranking.specs.Percentile.{on_day, Enough}
use Rattle.ranking.proofs.Tests.{true_or_false, false_fails, no_some}
use Rattle.ranking.proofs.Tallies.{tally_mono}
use Rattle.ranking.proofs.Bests.{Fails, best_of}

-- whether z comes before x
abbrev pub under : {E : Type 0} → (E → E → Bool) → E → E → Bool
under le x z = not (le x z)

pub record Fits {E : Type 0} (le : E → E → Bool) (xs : List (Option E)) (k : ℕ) (x : E) : Type 0 where
  pub enough : Enough le xs k x
  pub few : tally (under le x) xs < k

reverse : {E : Type 0} {le : E → E → Bool} → TotalOrder le → TotalOrder (λ x y. le y x)
reverse o = record { compares = λ x y. o.compares y x; transitive = λ x y z a b. o.transitive z y x b a }

lt_by : (a b : ℕ) → (b ≤ a → ⊥) → a < b
lt_by a b h = elim (true_or_false (leb b a)) [ inl t ↦ absurd (h (leb→le b a t)) | inr n ↦ nleb→lt b a (not_T (leb b a) (false_fails (leb b a) n)) ]

module _ {E : Type 0} (le : E → E → Bool) (o : TotalOrder le) where
  -- what fits is the least that has enough: otherwise all that do not come after the lesser one come before it
  pub least_fits : (xs : List (Option E)) (k : ℕ) (x : E) → Fits le xs k x → (e : ℕ) (y : E) → on_day xs e ≡ Some y → Enough le xs k y → T (le x y)
  least_fits xs k x fits e y is enough =
      elim (true_or_false (le x y)) [
        | inl t ↦ t
        | inr n ↦
            let more = tally_mono (λ z. le z y) (under le x) xs (λ d z at u. not_T (le x z) (λ v. false_fails (le x y) n (o.transitive x z y v u))) in
            absurd (omega (arith, more, fits.few, enough))
      ]

  -- equals fit alike
  pub equal_fits : (xs : List (Option E)) (k : ℕ) (x y : E) → Fits le xs k x → T (le x y) → T (le y x) → Fits le xs k y
  equal_fits xs k x y fits a b =
      let more = tally_mono (λ z. le z x) (λ z. le z y) xs (λ d z at u. o.transitive z x y u a) in
      let less = tally_mono (under le y) (under le x) xs (λ d z at u. not_T (le x z) (λ v. T_not (le y z) (o.transitive y x z b v) u)) in
      record { enough = omega (arith, more, fits.enough); few = omega (arith, less, fits.few) }

  tally_false : (xs : List (Option E)) → tally (λ _. false) xs ≡ 0
  tally_false [] = refl
  tally_false (None ∷ xs) = tally_false xs
  tally_false (Some x ∷ xs) = let h = tally_false xs in omega arith

  none_counted : (f : E → Bool) (xs : List (Option E)) → Fails f xs → tally f xs ≡ 0
  none_counted f xs fails =
      let h = tally_mono f (λ _. false) xs fails in
      let z = tally_false xs in
      omega arith

  -- fewer than k come before the least that has enough: of those the last would have enough too
  few_before : (xs : List (Option E)) (k : ℕ) (x : E) → 1 ≤ k → ((e : ℕ) (y : E) → on_day xs e ≡ Some y → T (leb k (tally (λ z. le z y) xs)) → T (le x y)) → k ≤ tally (under le x) xs → ⊥
  few_before xs k x low least many =
      elim (best_of le o (under le x) xs) [
        | inl m ↦
            let more = tally_mono (under le x) (λ z. le z m.it) xs m.best in
            T_not (le x m.it) (least m.day m.it m.stands (le→leb _ _ (omega arith))) m.passes
        | inr fails ↦ let z = none_counted (under le x) xs fails in omega arith
      ]

  -- the last of all has enough, so there is a least that has, and it fits
  pub some_fits : (xs : List (Option E)) (k : ℕ) → 1 ≤ k → k ≤ present xs → (d : ℕ) × (x : E) × (on_day xs d ≡ Some x) × Fits le xs k x
  some_fits xs k low high =
      elim (best_of le o (λ _. true) xs) [
        | inr fails ↦ let z = none_counted (λ _. true) xs fails in absurd (omega arith)
        | inl m ↦
            let all = tally_mono (λ _. true) (λ z. le z m.it) xs m.best in
            elim (best_of (λ x y. le y x) (reverse o) (λ x. leb k (tally (λ z. le z x) xs)) xs) [
              | inr fails ↦ absurd (fails m.day m.it m.stands (le→leb _ _ (omega arith)))
              | inl b ↦ (b.day, b.it, b.stands, record { enough = leb→le _ _ b.passes; few = lt_by _ _ (few_before xs k b.it low b.best) })
            ]
      ]

-- an element stands on one of the days
pub within_some : {E : Type 0} (xs : List (Option E)) (d : ℕ) (x : E) → on_day xs d ≡ Some x → d < length xs
within_some [] d x is = no_some is
within_some (o ∷ xs) zero x is = omega arith
within_some (o ∷ xs) (suc d) x is = let h = within_some xs d x is in omega arith
