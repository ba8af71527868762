-- What the relation says is what the definition works out: the least element that has enough passes the
-- test of the definition, and one of an earlier day that passed would be its equal.
use Rattle.std.proofs.Common.{◌≡◌, ℕ, zero, suc, ◌<◌, Bool, true, false, cond, not, ◌||◌, T, leb, ◌⊎◌, List, [], ◌∷◌, Some, None, Ok, Err, Option, Result, sym, refl, ap, ◌∙◌, subst, inl, inr, arith, le→leb, leb→le}
use Rattle.std.specs.Option.{ok_or}
use Rattle.ranking.specs.declared.fault.NoDays.{NoDays}
use Rattle.ranking.specs.Counts.{present, share}
use Rattle.ranking.specs.Percentile.{on_day, Least, Percentile}
use Rattle.ranking.specs.Answer.{first_passing, every, has_enough, is_least, is_percent, percentile_of}
use Rattle.ranking.proofs.Tests.{true_is, false_is, both, left_of, right_of, imply, apply, no_some, some_same}

proper : (p : ℕ) → T (leb 1 p) → T (leb p 100) → is_percent p ≡ true
proper p low high = true_is (is_percent p) (both (leb 1 p) (leb p 100) low high)

improper : (p : ℕ) → (p < 1) ⊎ (100 < p) → is_percent p ≡ false
improper p (inl h) = false_is (is_percent p) (λ t. let l = leb→le 1 p (left_of (leb 1 p) (leb p 100) t) in omega arith)
improper p (inr h) = false_is (is_percent p) (λ t. let l = leb→le p 100 (right_of (leb 1 p) (leb p 100) t) in omega arith)

no_days_same : (f g : NoDays) → f ≡ g
no_days_same f g = refl

module _ {E : Type 0} where
  every_from : (f : E → Bool) (xs : List (Option E)) → ((e : ℕ) (y : E) → on_day xs e ≡ Some y → T (f y)) → T (every f xs)
  every_from f [] h = tt
  every_from f (None ∷ xs) h = every_from f xs (λ e y is. h (suc e) y is)
  every_from f (Some x ∷ xs) h = both (f x) (every f xs) (h 0 x refl) (every_from f xs (λ e y is. h (suc e) y is))

  every_at : (f : E → Bool) (xs : List (Option E)) → T (every f xs) → (e : ℕ) (y : E) → on_day xs e ≡ Some y → T (f y)
  every_at f [] t e y is = no_some is
  every_at f (None ∷ xs) t zero y is = no_some is
  every_at f (None ∷ xs) t (suc e) y is = every_at f xs t e y is
  every_at f (Some x ∷ xs) t zero y is = let P : E → Type 0 = λ z. T (f z) in subst P (some_same is) (left_of (f x) (every f xs) t)
  every_at f (Some x ∷ xs) t (suc e) y is = every_at f xs (right_of (f x) (every f xs) t) e y is

  first_at : (f : E → Bool) (xs : List (Option E)) (d : ℕ) (x : E) → on_day xs d ≡ Some x → T (f x) → ((e : ℕ) (y : E) → e < d → on_day xs e ≡ Some y → T (f y) → ⊥) → first_passing f xs ≡ Some x
  first_at f [] d x is t h = no_some is
  first_at f (None ∷ xs) zero x is t h = no_some is
  first_at f (None ∷ xs) (suc d) x is t h = first_at f xs d x is t (λ e y lt at u. h (suc e) y (omega arith) at u)
  first_at f (Some y ∷ xs) zero x is t h =
      let P : E → Type 0 = λ z. T (f z) in
      let here : f y ≡ true = true_is (f y) (subst P (sym (some_same is)) t) in
      ap (λ b. cond b (Some y) (first_passing f xs)) here ∙ is
  first_at f (Some y ∷ xs) (suc d) x is t h =
      let here : f y ≡ false = false_is (f y) (λ u. h 0 y (omega arith) refl u) in
      ap (λ b. cond b (Some y) (first_passing f xs)) here ∙ first_at f xs d x is t (λ e z lt at u. h (suc e) z (omega arith) at u)

  none_passing : (f : E → Bool) (xs : List (Option E)) → present xs ≡ 0 → first_passing f xs ≡ None
  none_passing f [] h = refl
  none_passing f (None ∷ xs) h = none_passing f xs h
  none_passing f (Some x ∷ xs) h = absurd (omega arith)

  -- whether y has enough only if x does not come after it
  abbrev bounds : (E → E → Bool) → List (Option E) → ℕ → E → E → Bool
  bounds le xs k x y = not (has_enough le xs k y) || le x y

  worked_out : (le : E → E → Bool) (xs : List (Option E)) (k d : ℕ) (x : E) → Least le xs k d x → first_passing (is_least le xs k) xs ≡ Some x
  unfolding is_least
  worked_out le xs k d x l =
      let enough : T (has_enough le xs k x) = le→leb _ _ l.enough in
      first_at (is_least le xs k) xs d x l.stands
      (both (has_enough le xs k x) (every (bounds le xs k x) xs) enough
      (every_from (bounds le xs k x) xs (λ e y is. imply (has_enough le xs k y) (le x y) (λ t. l.least e y is (leb→le _ _ t)))))
      (λ e y lt is t.
      let has : T (has_enough le xs k y) = left_of (has_enough le xs k y) (every (bounds le xs k y) xs) t in
      let least : T (every (bounds le xs k y) xs) = right_of (has_enough le xs k y) (every (bounds le xs k y) xs) t in
      let not_after : T (le y x) = apply (has_enough le xs k x) (le y x) (every_at (bounds le xs k y) xs least d x l.stands) enough in
      l.earliest e y lt is (l.least e y is (leb→le _ _ has)) not_after)

  pub percentile_is : (le : E → E → Bool) (xs : List (Option E)) (p : ℕ) (r : Result E NoDays) → Percentile le xs p r → r ≡ percentile_of le xs p
  unfolding percentile_of
  percentile_is le xs p (Ok x) a =
      let percent = proper p (le→leb 1 p a.from_one) (le→leb p 100 a.to_hundred) in
      let e : first_passing (is_least le xs (share p (present xs))) xs ≡ Some x = worked_out le xs (share p (present xs)) a.day x a.answers in
      rw (percent, e) refl
  percentile_is le xs p (Err f) (inl none) =
      let e : first_passing (is_least le xs (share p (present xs))) xs ≡ None = none_passing (is_least le xs (share p (present xs))) xs none in
      by_percent (is_percent p) (rw e (ap Err (no_days_same f (record {}))))
    where
      by_percent : (b : Bool) → Err f ≡ ok_or (first_passing (is_least le xs (share p (present xs))) xs) (record {}) → Err f ≡ cond b (ok_or (first_passing (is_least le xs (share p (present xs))) xs) (record {})) (Err (record {}))
      by_percent true h = h
      by_percent false h = ap Err (no_days_same f (record {}))
  percentile_is le xs p (Err f) (inr bad) = rw (improper p bad) (ap Err (no_days_same f (record {})))
