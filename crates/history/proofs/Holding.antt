-- A total that is not above both of two bounds stays so where no change is over the limit.
use Rattle.std.proofs.Common.{◌≡◌, Bool, true, false, ◌&&◌, ◌⊎◌, ℤ, pos, ◌+ℤ◌, ◌≤ℤ◌, ◌<ℤ◌, sym, refl, ap, ◌∙◌, inl, inr, arith}
use Rattle.std.specs.Int.Signed.{lt_z}
use Rattle.std.proofs.lemmas.Bool.{both_ways}
use Rattle.std.proofs.lemmas.Int.{ints, by_lt_z}
use Rattle.history.specs.Answers.{over}

abbrev pub Held : ℤ → ℤ → ℤ → Type 0
Held limit then total = (total ≤ℤ limit) ⊎ (total ≤ℤ then)

is_lt : (a b : ℤ) → a <ℤ b → lt_z a b ≡ true
is_lt a b h = grind (arith, ints)

pub held_more : (limit then total x : ℤ) → Held limit then total → over limit total x ≡ false → Held limit then (total +ℤ x)
held_more limit then total x h o =
    by_lt_z (pos 0) x
    (λ p. by_lt_z limit (total +ℤ x)
    (λ q. let a = is_lt (pos 0) x p in let b = is_lt limit (total +ℤ x) q in absurd (both_ways false refl (sym o ∙ ap (λ (y : Bool). y && lt_z limit (total +ℤ x)) a ∙ b)))
    (λ q. inl q))
    (λ p. elim h [ inl k ↦ inl (omega (arith, ints)) | inr k ↦ inr (omega (arith, ints)) ])

pub not_both : (limit then total : ℤ) → Held limit then total → limit <ℤ total → then <ℤ total → ⊥
not_both limit then total (inl h) p q = omega (arith, ints, p, h)
not_both limit then total (inr h) p q = omega (arith, ints, q, h)
