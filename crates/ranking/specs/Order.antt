-- Total orders, as a test that says whether one element does not come after another. Assumes nothing.
use Rattle.std.specs.Prelude.{◌≡◌, Bool, false, T, ◌⊎◌, ℤ, int_le}
use Rattle.std.specs.declared.cmp.Ordering.{Ordering}
use Rattle.std.specs.declared.cmp.Ordering.TheVariants.{Less, Equal, Greater}
use Rattle.std.specs.Cmp.{IsTotalOrder}
use Rattle.std.specs.Ordering.{is_le, is_gt, int_cmp, ordering_reverse}
use Rattle.std.proofs.Common.{rules, arith, refl, ap, inl, inr, true≢false}
use Rattle.std.proofs.lemmas.Int.{ints}
use Rattle.std.proofs.lemmas.Cmp.{upto as chained}

-- any two compare, and the order is transitive
pub record TotalOrder {E : Type 0} (le : E → E → Bool) : Type 0 where
  pub compares : (x y : E) → T (le x y) ⊎ T (le y x)
  pub transitive : (x y z : E) → T (le x y) → T (le y z) → T (le x z)

-- whether x does not come after y, by how the two compare
abbrev pub upto : {E : Type 0} → (E → E → Ordering) → E → E → Bool
upto cmp x y = is_le (cmp x y)

one_way : (r s : Ordering) → r ≡ ordering_reverse s → T (is_le r) ⊎ T (is_le s)
one_way Less s turned = inl tt
one_way Equal s turned = inl tt
one_way Greater Less turned = inr tt
one_way Greater Equal turned = inr tt
one_way Greater Greater turned = absurd (true≢false (ap is_gt turned))

not_greater : (r : Ordering) → T (is_le r) → is_gt r ≡ false
not_greater Less t = refl
not_greater Equal t = refl
not_greater Greater t = absurd t

at_most : (r : Ordering) → is_gt r ≡ false → T (is_le r)
at_most Less n = tt
at_most Equal n = tt
at_most Greater n = absurd (true≢false n)

-- prices, as numbers
pub int_le_total : TotalOrder int_le
int_le_total = record { compares = search rules; transitive = search rules }

int_at_most : (x y : ℤ) → is_le (int_cmp x y) ≡ int_le x y
int_at_most x y = grind (arith, ints)

-- their `Ord` ranks them so
pub int_upto : ◌≡◌ {A = ℤ → ℤ → Bool} (upto int_cmp) int_le
int_upto i x y = int_at_most x y i

-- what `Ord` promises of its comparison makes a total order
pub total : {E : Type 0} (cmp : E → E → Ordering) → IsTotalOrder cmp → TotalOrder (upto cmp)
total cmp o = record {
  compares = λ x y. one_way (cmp x y) (cmp y x) (o.antisymm x y);
  transitive = λ x y z h k. at_most (cmp x z) (chained o x y z (not_greater (cmp x y) h) (not_greater (cmp y z) k));
}
