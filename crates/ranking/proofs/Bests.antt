-- Of the elements that pass a test, one comes last of all, by the list: a new element that passes is
-- compared with the best of the others.
use Rattle.std.proofs.Common.{◌≡◌, ℕ, zero, suc, Bool, false, T, ◌⊎◌, List, [], ◌∷◌, Some, None, Option, refl, subst, inl, inr}
use Rattle.ranking.specs.Order.{TotalOrder}
use Rattle.ranking.specs.Percentile.{on_day}
use Rattle.ranking.proofs.Tests.{true_or_false, false_fails, no_some, some_same}

-- a day's element that passes the test, and that no other that passes comes after
pub record Best {E : Type 0} (le : E → E → Bool) (f : E → Bool) (xs : List (Option E)) : Type 0 where
  pub day : ℕ
  pub it : E
  pub stands : on_day xs day ≡ Some it
  pub passes : T (f it)
  pub best : (e : ℕ) (y : E) → on_day xs e ≡ Some y → T (f y) → T (le y it)

-- no element passes
abbrev pub Fails : {E : Type 0} → (E → Bool) → List (Option E) → Type 0
Fails {E} f xs = (e : ℕ) (y : E) → on_day xs e ≡ Some y → T (f y) → ⊥

-- a fact of each element, with one more day
each : {E : Type 0} (P : E → Type 0) (o : Option E) (xs : List (Option E)) → ((y : E) → o ≡ Some y → P y) → ((e : ℕ) (y : E) → on_day xs e ≡ Some y → P y) → (e : ℕ) (y : E) → on_day (o ∷ xs) e ≡ Some y → P y
each P o xs here rest zero y is = here y is
each P o xs here rest (suc e) y is = rest e y is

-- a fact of the one element of a day
at_same : {E : Type 0} (P : E → Type 0) (x z : E) → P x → Some x ≡ Some z → P z
at_same P x z h same = subst P (some_same same) h

module _ {E : Type 0} (le : E → E → Bool) (o : TotalOrder le) (f : E → Bool) where
  self_le : (x : E) → T (le x x)
  self_le x = elim (o.compares x x) [ inl t ↦ t | inr t ↦ t ]

  -- the new element is the best
  take_new : (x : E) (xs : List (Option E)) → T (f x) → ((e : ℕ) (y : E) → on_day xs e ≡ Some y → T (f y) → T (le y x)) → Best le f (Some x ∷ xs)
  take_new x xs t all =
      let P : E → Type 0 = λ z. T (f z) → T (le z x) in
      record { day = 0; it = x; stands = refl; passes = t; best = each P (Some x) xs (λ z same. at_same P x z (λ _. self_le x) same) all }

  -- the best of the others stays the best
  keep_old : (q : Option E) (xs : List (Option E)) (b : Best le f xs) → ((y : E) → q ≡ Some y → T (f y) → T (le y b.it)) → Best le f (q ∷ xs)
  keep_old q xs b here =
      let P : E → Type 0 = λ z. T (f z) → T (le z b.it) in
      record { day = suc b.day; it = b.it; stands = b.stands; passes = b.passes; best = each P q xs here b.best }

  no_new : (q : Option E) (xs : List (Option E)) → ((y : E) → q ≡ Some y → T (f y) → ⊥) → Fails f xs → Fails f (q ∷ xs)
  no_new q xs here rest = let P : E → Type 0 = λ z. T (f z) → ⊥ in each P q xs here rest

  joined : (x : E) (xs : List (Option E)) → (T (f x) ⊎ (f x ≡ false)) → (Best le f xs ⊎ Fails f xs) → Best le f (Some x ∷ xs) ⊎ Fails f (Some x ∷ xs)
  joined x xs (inl t) (inr none) = inl (take_new x xs t (λ e y is u. absurd (none e y is u)))
  joined x xs (inl t) (inl b) =
      elim (o.compares x b.it) [
        | inl under ↦ inl (keep_old (Some x) xs b (λ z same. let P : E → Type 0 = λ q. T (f q) → T (le q b.it) in at_same P x z (λ _. under) same))
        | inr above ↦ inl (take_new x xs t (λ e y is u. o.transitive y b.it x (b.best e y is u) above))
      ]
  joined x xs (inr n) (inr none) =
      inr (no_new (Some x) xs (λ z same. let P : E → Type 0 = λ q. T (f q) → ⊥ in at_same P x z (false_fails (f x) n) same) none)
  joined x xs (inr n) (inl b) =
      inl (keep_old (Some x) xs b (λ z same. let P : E → Type 0 = λ q. T (f q) → T (le q b.it) in at_same P x z (λ u. absurd (false_fails (f x) n u)) same))

  -- the best of those that pass, if any does
  pub best_of : (xs : List (Option E)) → Best le f xs ⊎ Fails f xs
  best_of [] = inr (λ e y is t. no_some is)
  best_of (None ∷ xs) =
      elim (best_of xs) [
        | inl b ↦ inl (keep_old None xs b (λ z is. no_some is))
        | inr n ↦ inr (no_new None xs (λ z is. no_some is) n)
      ]
  best_of (Some x ∷ xs) = joined x xs (true_or_false (f x)) (best_of xs)
