-- The greatest over the steps, in words.
use Rattle.std.proofs.Common.{◌≡◌, ℕ, ◌≤◌, Bool, true, false, cond, ◌⊎◌, List, [], ◌∷◌, length, ℤ, pos, negsuc, ◌+ℤ◌, ◌-ℤ◌, ◌*ℤ◌, ◌≤ℤ◌, sym, refl, ◌∙◌, inl, inr, arith}
use Rattle.std.specs.Int.Signed.{le_z, lt_z}
use Rattle.std.specs.List.{AllByRecursion}
use Rattle.std.specs.Int.{int_max, int_min}
use Rattle.std.proofs.lemmas.Int.{ints, clamps}
use Rattle.market.specs.declared.step.Step.{Step}
use Rattle.formulas.specs.Kinds.{bid_step, greatest, energy_bid, Greatest, SomeStep}

max_left : (a b : ℤ) → a ≤ℤ int_max a b
max_left a b = omega (arith, ints, clamps)

max_right : (a b : ℤ) → b ≤ℤ int_max a b
max_right a b = omega (arith, ints, clamps)

through : (a b c : ℤ) → a ≤ℤ b → b ≤ℤ c → a ≤ℤ c
through a b c h k = omega (arith, ints)

max_is : (a b : ℤ) → (int_max a b ≡ a) ⊎ (int_max a b ≡ b)
max_is a b = go (lt_z b a)
  where
    go : (t : Bool) → (cond t a b ≡ a) ⊎ (cond t a b ≡ b)
    go true = inl refl
    go false = inr refl

module _ (f : Step → ℤ) where
  top_below : (top : ℤ) (xs : List Step) → top ≤ℤ greatest f top xs
  top_below top [] = omega (arith, ints)
  top_below top (s ∷ ss) = through top (int_max top (f s)) _ (max_left top (f s)) (top_below (int_max top (f s)) ss)

  each_below : (top : ℤ) (xs : List Step) → AllByRecursion (λ s. f s ≤ℤ greatest f top xs) xs
  each_below top [] = tt
  each_below top (s ∷ ss) = (through (f s) (int_max top (f s)) _ (max_right top (f s)) (top_below (int_max top (f s)) ss), each_below (int_max top (f s)) ss)

  one_is : (top : ℤ) (xs : List Step) → (greatest f top xs ≡ top) ⊎ SomeStep (λ s. f s ≡ greatest f top xs) xs
  one_is top [] = inl refl
  one_is top (s ∷ ss) = elim (one_is (int_max top (f s)) ss) [
    | inl e ↦ elim (max_is top (f s)) [ inl k ↦ inl (e ∙ k) | inr k ↦ inr (inl (sym k ∙ sym e)) ]
    | inr h ↦ inr (inr h)
  ]

  -- where none is below 0, the start at 0 is no step of its own
  pub greatest_in_words : ((s : Step) → pos 0 ≤ℤ f s) → (xs : List Step) → 1 ≤ length xs → Greatest f xs (greatest f (pos 0) xs)
  greatest_in_words least [] h = absurd (omega (arith, h))
  greatest_in_words least (s ∷ ss) h =
      let r = greatest f (pos 0) (s ∷ ss) in
      let below = each_below (pos 0) (s ∷ ss) in
      record {
        none_more = below;
        reached = elim (one_is (pos 0) (s ∷ ss)) [
          | inl e ↦ inl (equal (f s) r (least s) below.0 e)
          | inr k ↦ k
        ];
      }
    where
      equal : (a r : ℤ) → pos 0 ≤ℤ a → a ≤ℤ r → r ≡ pos 0 → a ≡ r
      equal a r p q e = omega (arith, ints)

no_less : (z : ℤ) (q : ℕ) → pos 0 ≤ℤ z → pos 0 ≤ℤ (z *ℤ pos q)
no_less (pos a) q h = omega (arith, ints)
no_less (negsuc a) q h = absurd (omega (arith, ints, h))

least_of : (t : Bool) (z : ℤ) (q : ℕ) → pos 0 ≤ℤ cond t (pos 0) (int_max z (pos 0) *ℤ pos q)
least_of true z q = record { le = tt }
least_of false z q = no_less (int_max z (pos 0)) q (max_right z (pos 0))

bid_step_least : (e : ℕ) (d : ℤ) (s : Step) → pos 0 ≤ℤ bid_step e d s
bid_step_least e d s = least_of (le_z s.price (pos 0)) ((pos 100 *ℤ int_min d s.price) +ℤ (pos e *ℤ (s.price -ℤ int_min d s.price))) s.quantity

pub bid_in_words : (e : ℕ) (d : ℤ) (xs : List Step) → 1 ≤ length xs → Greatest (bid_step e d) xs (energy_bid e d xs)
bid_in_words e d xs h = greatest_in_words (bid_step e d) (bid_step_least e d) xs h
