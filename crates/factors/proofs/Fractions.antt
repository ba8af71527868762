-- Ratios of equal tops and bottoms are equal, since what else they carry are proofs; so the ratio that is
-- made of a day's figures is the one that is defined.
use Rattle.std.proofs.Common.{◌≡◌, ℕ, zero, suc, ◌+◌, ◌<◌, ◌≤◌, true, ℤ, pos, negsuc, ◌-ℤ◌, neg_ℤ, nat_abs, ◌≤ℤ◌, ◌<ℤ◌, sym, ap, ◌∙◌, subst, add-one, arith}
use Rattle.std.proofs.Math.Bridge.{le_prop}
use Rattle.std.proofs.lemmas.Int.{ints}
use Rattle.factors.specs.declared.ratio.Ratio.{Ratio}
use Rattle.factors.specs.Ratios.{clipped, over_next, ratio_one, ratio_zero}
use Rattle.factors.specs.Days.{dollars_fit, quantity_fits, first_of, second_of}

pub ratio_same : (x y : Ratio) → x.top ≡ y.top → x.bottom ≡ y.bottom → x ≡ y
ratio_same x y tops bottoms =
    let at_bottom : ℕ → Type 0 = λ b. (p : 0 < b) (w : y.top ≤ b) → ◌≡◌ {A = Ratio} (record { top = y.top; bottom = b; proper = p; within = w }) y in
    let at_top : ℕ → Type 0 = λ t. (w : t ≤ x.bottom) → ◌≡◌ {A = Ratio} (record { top = t; bottom = x.bottom; proper = x.proper; within = w }) y in
    let same_bottom : at_bottom y.bottom = λ p w.
    ap (λ (q : 0 < y.bottom). record { top = y.top; bottom = y.bottom; proper = q; within = w }) (le_prop p y.proper)
    ∙ ap (λ (q : y.top ≤ y.bottom). record { top = y.top; bottom = y.bottom; proper = y.proper; within = q }) (le_prop w y.within) in
    let same_top : at_top y.top = subst at_bottom (sym bottoms) same_bottom x.proper in
    subst at_top (sym tops) same_top x.within

-- a ratio over b, where b is n + 1
made_over : (r : Ratio) (top : ℤ) (b n : ℕ) → b ≡ n + 1 → r.bottom ≡ b → r.top ≡ clipped top b → r ≡ over_next top n
made_over r top b n is over brought = ratio_same r (over_next top n) (brought ∙ ap (clipped top) is) (over ∙ is)

pub first_none : (b o : ℤ) (r : Ratio) → b ≡ pos 0 → r.bottom ≡ 1 → r.top ≡ 1 → r ≡ first_of b o
unfolding first_of
first_none (pos zero) o r is over brought = ratio_same r ratio_one brought over
first_none (pos (suc n)) o r is over brought = absurd (omega (arith, ints))
first_none (negsuc n) o r is over brought = absurd (omega (arith, ints))

pub first_above : (b o z top : ℤ) (r : Ratio) → z ≡ b → top ≡ b -ℤ o → pos 0 <ℤ b → r.bottom ≡ nat_abs z → r.top ≡ clipped top (nat_abs z) → r ≡ first_of b o
unfolding first_of
first_above (pos zero) o z top r back difference above over brought = absurd (omega (arith, ints))
first_above (pos (suc n)) o z top r back difference above over brought =
    made_over r top (nat_abs z) n (ap nat_abs back ∙ sym (add-one n)) over brought ∙ ap (λ t. over_next t n) difference
first_above (negsuc n) o z top r back difference above over brought = absurd (omega (arith, ints))

pub first_below : (b o z top : ℤ) (r : Ratio) → z ≡ neg_ℤ b → top ≡ o -ℤ b → b <ℤ pos 0 → r.bottom ≡ nat_abs z → r.top ≡ clipped top (nat_abs z) → r ≡ first_of b o
unfolding first_of
first_below (pos n) o z top r back difference below over brought = absurd (omega (arith, ints))
first_below (negsuc n) o z top r back difference below over brought =
    made_over r top (nat_abs z) n (ap nat_abs back ∙ sym (add-one n)) over brought ∙ ap (λ t. over_next t n) difference

pub second_none : (b f : ℤ) (r : Ratio) → f ≡ pos 0 → r.bottom ≡ 1 → r.top ≡ 0 → r ≡ second_of b f
unfolding second_of
second_none b (pos zero) r is over brought = ratio_same r ratio_zero brought over
second_none b (pos (suc n)) r is over brought = absurd (omega (arith, ints))
second_none b (negsuc n) r is over brought = absurd (omega (arith, ints))

pub second_above : (b f z top : ℤ) (r : Ratio) → z ≡ f → top ≡ b → pos 0 <ℤ f → r.bottom ≡ nat_abs z → r.top ≡ clipped top (nat_abs z) → r ≡ second_of b f
unfolding second_of
second_above b (pos zero) z top r back same above over brought = absurd (omega (arith, ints))
second_above b (pos (suc n)) z top r back same above over brought =
    made_over r top (nat_abs z) n (ap nat_abs back ∙ sym (add-one n)) over brought ∙ ap (λ t. over_next t n) same
second_above b (negsuc n) z top r back same above over brought = absurd (omega (arith, ints))

pub dollars_low : (z : ℤ) → dollars_fit z ≡ true → negsuc 1999999999 ≤ℤ z
dollars_low z h = grind (arith, ints)

pub dollars_high : (z : ℤ) → dollars_fit z ≡ true → z ≤ℤ pos 2000000000
dollars_high z h = grind (arith, ints)

pub quantity_low : (z : ℤ) → quantity_fits z ≡ true → pos 0 ≤ℤ z
quantity_low z h = grind (arith, ints)

pub quantity_high : (z : ℤ) → quantity_fits z ≡ true → z ≤ℤ pos 2000000000
quantity_high z h = grind (arith, ints)
