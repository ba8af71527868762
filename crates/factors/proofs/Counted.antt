-- A factor is the rounded percentile where there are 1 to 30 days, and the fault elsewhere: each by the
-- test of the count of days.
use Rattle.std.proofs.Common.{◌≡◌, ℕ, ◌<◌, ◌≤◌, true, false, ◌&&◌, leb, ◌⊎◌, List, map, length, Err, Option, Result, refl, ap, ◌∙◌, inl, inr, arith}
use Rattle.std.proofs.lemmas.Bool.Decides.{nat_tests}
use Rattle.ranking.specs.declared.fault.NoDays.{NoDays}
use Rattle.ranking.specs.Answer.{percentile_of}
use Rattle.ranking.specs.Order.{upto}
use Rattle.factors.specs.declared.ratio.Ratio.{Ratio}
use Rattle.factors.specs.Ratios.{crossed}
use Rattle.factors.specs.Crossing.{crossed_upto}
use Rattle.factors.specs.Factors.{rounded, factor_of}

in_count : (n : ℕ) → 1 ≤ n → n ≤ 30 → (leb 1 n && leb n 30) ≡ true
in_count n low high = grind (arith, nat_tests)

off_count : (n : ℕ) → (n < 1) ⊎ (30 < n) → (leb 1 n && leb n 30) ≡ false
off_count n (inl few) = grind (arith, nat_tests)
off_count n (inr many) = grind (arith, nat_tests)

module _ {D : Type 0} (ratio : D → Option Ratio) (days : List D) (p : ℕ) where
  pub factor_none : (length days < 1) ⊎ (30 < length days) → Err (record {}) ≡ factor_of ratio days p
  unfolding factor_of
  factor_none off = rw (off_count (length days) off) refl

  -- what the ratios of the days rank at, rounded
  pub factor_is : (ratios : List (Option Ratio)) (ranked : Result Ratio NoDays) → 1 ≤ length days → length days ≤ 30 → ratios ≡ map ratio days → ranked ≡ percentile_of (upto crossed) ratios p → rounded ranked ≡ factor_of ratio days p
  unfolding factor_of
  factor_is ratios ranked low high gathered is =
      rw (in_count (length days) low high) (ap rounded (is ∙ (λ i. percentile_of (crossed_upto i) (gathered i) p)))
