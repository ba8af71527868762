-- A bid's step, and one more of a greatest.
use Rattle.std.proofs.Common.{◌≡◌, ℕ, ◌+◌, ◌<◌, ◌≤◌, true, false, cond, List, length, get_or, drop, ℤ, pos, ◌+ℤ◌, ◌-ℤ◌, ◌*ℤ◌, sym, refl, ap, ◌∙◌}
use Rattle.std.proofs.Math.IntN.{+ℤ_idr}
use Rattle.std.specs.Int.Signed.{le_z, lt_z}
use Rattle.std.specs.Int.{int_max, int_min}
use Rattle.std.proofs.lemmas.List.{at_drop_more, at_drop_all}
use Rattle.market.specs.declared.step.Step.{Step}
use Rattle.formulas.specs.Kinds.{at_price, bid_step, greatest, grains, path_step}

pub at_price_is : (e q : ℕ) (a p a' x w₁ w₂ t m m' r : ℤ)
    → w₁ ≡ pos 100 *ℤ a' → w₂ ≡ pos e *ℤ x → m ≡ int_max t (pos 0) → r ≡ m' *ℤ pos q
    → a' ≡ a → x ≡ p -ℤ a → t ≡ w₁ +ℤ w₂ → m' ≡ m → r ≡ at_price e a p q
at_price_is e q a p a' x w₁ w₂ t m m' r p₁ p₂ p₃ p₄ q₁ q₂ q₃ q₄ =
    let first : w₁ ≡ pos 100 *ℤ a = p₁ ∙ ap (λ z. pos 100 *ℤ z) q₁ in
    let second : w₂ ≡ pos e *ℤ (p -ℤ a) = p₂ ∙ ap (λ z. pos e *ℤ z) q₂ in
    let rate : t ≡ (pos 100 *ℤ a) +ℤ (pos e *ℤ (p -ℤ a)) = q₃ ∙ (λ i. first i +ℤ second i) in
    p₄ ∙ ap (λ z. z *ℤ pos q) (q₄ ∙ p₃ ∙ ap (λ z. int_max z (pos 0)) rate)

module _ (f : Step → ℤ) (xs : List Step) (i : ℕ) where
  pub top_turn : (d : Step) (top top' b b' m whole : ℤ) → i < length xs
      → greatest f top (drop i xs) ≡ whole → m ≡ int_max top b' → b ≡ f (get_or xs i d)
      → b' ≡ b → top' ≡ m → greatest f top' (drop (i + 1) xs) ≡ whole
  top_turn d top top' b b' m whole h e p₁ p₂ q₁ q₂ =
      let more : greatest f top (drop i xs) ≡ greatest f (int_max top (f (get_or xs i d))) (drop (i + 1) xs) = at_drop_more (greatest f top) xs i d h in
      ap (λ z. greatest f z (drop (i + 1) xs)) (q₂ ∙ p₁ ∙ ap (λ z. int_max top z) (q₁ ∙ p₂)) ∙ sym more ∙ e

  pub top_all : (top whole : ℤ) → length xs ≤ i → greatest f top (drop i xs) ≡ whole → top ≡ whole
  top_all top whole h e = sym (at_drop_all (greatest f top) xs i h) ∙ e

pub path_paid : (w : ℤ) (c : ℕ) (s : Step) (x m m' u paid r : ℤ)
    → paid ≡ grains 100 x s.quantity → m ≡ int_max m' (pos 0) → lt_z (pos 0) s.price ≡ true → u ≡ grains 90 s.price c
    → m' ≡ s.price → x ≡ m +ℤ w → r ≡ paid -ℤ u → r ≡ path_step w c s
path_paid w c s x m m' u paid r p₁ p₂ t p₃ q₁ q₂ q₃ =
    let inner : x ≡ int_max s.price (pos 0) +ℤ w = q₂ ∙ ap (λ z. z +ℤ w) (p₂ ∙ ap (λ z. int_max z (pos 0)) q₁) in
    let whole : paid ≡ grains 100 (int_max s.price (pos 0) +ℤ w) s.quantity = p₁ ∙ ap (λ z. grains 100 z s.quantity) inner in
    q₃ ∙ (λ i. whole i -ℤ p₃ i) ∙ sym (ap (λ b. grains 100 (int_max s.price (pos 0) +ℤ w) s.quantity -ℤ cond b (grains 90 s.price c) (pos 0)) t)

pub path_free : (w : ℤ) (c : ℕ) (s : Step) (x m m' paid r : ℤ)
    → paid ≡ grains 100 x s.quantity → m ≡ int_max m' (pos 0) → lt_z (pos 0) s.price ≡ false
    → m' ≡ s.price → x ≡ m +ℤ w → r ≡ paid → r ≡ path_step w c s
path_free w c s x m m' paid r p₁ p₂ t q₁ q₂ q₃ =
    let inner : x ≡ int_max s.price (pos 0) +ℤ w = q₂ ∙ ap (λ z. z +ℤ w) (p₂ ∙ ap (λ z. int_max z (pos 0)) q₁) in
    let whole : paid ≡ grains 100 (int_max s.price (pos 0) +ℤ w) s.quantity = p₁ ∙ ap (λ z. grains 100 z s.quantity) inner in
    q₃ ∙ whole ∙ sym (+ℤ_idr (grains 100 (int_max s.price (pos 0) +ℤ w) s.quantity)) ∙ sym (ap (λ b. grains 100 (int_max s.price (pos 0) +ℤ w) s.quantity -ℤ cond b (grains 90 s.price c) (pos 0)) t)

pub bid_taken : (e : ℕ) (d : ℤ) (s : Step) → le_z s.price (pos 0) ≡ false → bid_step e d s ≡ at_price e (int_min d s.price) s.price s.quantity
bid_taken e d s t = rw t refl
