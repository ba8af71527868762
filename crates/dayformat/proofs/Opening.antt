-- The call that bytes open with is what the letter's pattern reads: the letter settles which clause of
-- the definition holds, and the pattern's length that the call is not cut.
use Rattle.std.proofs.Common.{◌≡◌, ℕ, ◌+◌, ◌-◌, ◌*◌, ◌/◌, ◌<◌, ◌≤◌, Bool, true, false, cond, eqb, leb, List, map, length, get_or, take, drop, Some, None, sym, refl, ap, ◌∙◌, arith, length-drop, eqb-true, le-leb, leb-true}
use Rattle.std.proofs.lemmas.Bool.{lt-leb}
use Rattle.std.proofs.lemmas.List.{drop-drop, take_rest, length-take-le}
use Rattle.std.proofs.lemmas.Bool.{cond-true, cond-false}
use Rattle.market.specs.declared.kind.Figures.{Figures}
use Rattle.market.specs.declared.step.Step.{Step}
use Rattle.std.specs.Simd.{first_chunks}
use Rattle.dayformat.specs.Steps.{step_of, steps_of}
use Rattle.dayformat.specs.Filed.{Filed, to_submit}
use Rattle.dayformat.specs.Calls.{sized, figures_of, by_letter, first_call}

-- a call of n bytes, and what follows it
reads : (bs after : List ℕ) (n : ℕ) (k k' : Filed) → first_call bs ≡ sized n bs k → 1 ≤ n → n ≤ length bs → k ≡ k' → drop n bs ≡ after →
    (first_call bs ≡ Some (k', after)) × (length after < length bs)
reads bs after n k k' how one long same past =
    let e : length after ≡ length bs - n = ap length (sym past) ∙ length-drop n bs in (
      how ∙ cond-true (leb n (length bs)) (Some (k, drop n bs)) None (le-leb n (length bs) long)
          ∙ ap (λ (x : Filed). Some (x, drop n bs)) same ∙ ap (λ (l : List ℕ). Some (k', l)) past,
      omega arith,
    )

-- a call of a fixed size
pub opens : (bs : List ℕ) (b n : ℕ) (k k' : Filed) → by_letter b bs ≡ sized n bs k → get_or bs 0 0 ≡ b → 1 ≤ n → n ≤ length bs → k ≡ k' →
    (first_call bs ≡ Some (k', take (length bs - n) (drop n bs))) × (length (take (length bs - n) (drop n bs)) < length bs)
unfolding first_call
opens bs b n k k' how e one long same = reads bs (take (length bs - n) (drop n bs)) n k k' (ap (λ (x : ℕ). by_letter x bs) e ∙ how) one long same (sym (take_rest bs n))

-- a submission with its steps, and what is past them
pub opens_steps : (bs rest part after : List ℕ) (f : Figures) (steps : List Step) → get_or bs 0 0 ≡ 83 → 14 ≤ length bs → rest ≡ drop 14 bs →
    (part ≡ take (8 * get_or bs 13 0) rest) × (after ≡ drop (8 * get_or bs 13 0) rest) × (8 * get_or bs 13 0 ≤ length rest) →
    f ≡ figures_of bs → steps ≡ map step_of (first_chunks 8 (length part / 8) part) →
    (first_call bs ≡ Some (to_submit f steps, after)) × (length after < length bs)
unfolding first_call
opens_steps bs rest part after f steps e long same cuts figures are =
    let c = get_or bs 13 0 in
    let r : length rest ≡ length bs - 14 = ap length same ∙ length-drop 14 bs in
    let fits : 8 * c ≤ length rest = cuts.2 in
    let size : length part ≡ 8 * c = ap length cuts.0 ∙ length-take-le (8 * c) rest fits in
    let count : length part / 8 ≡ c = omega arith in
    let here : part ≡ take (8 * c) (drop 14 bs) = cuts.0 ∙ ap (take (8 * c)) same in
    let read : steps ≡ steps_of (take (8 * c) (drop 14 bs)) c = are ∙ ap (λ (n : ℕ). steps_of part n) count ∙ ap (λ (l : List ℕ). steps_of l c) here in
    let past : drop (14 + 8 * c) bs ≡ after = sym (cuts.1 ∙ ap (drop (8 * c)) same ∙ drop-drop (8 * c) 14 bs ∙ ap (λ (j : ℕ). drop j bs) (omega arith)) in
    reads bs after (14 + 8 * c) (to_submit (figures_of bs) (steps_of (take (8 * c) (drop 14 bs)) c)) (to_submit f steps)
    (ap (λ (x : ℕ). by_letter x bs) e ∙ cond-true (leb 14 (length bs)) _ None (le-leb 14 (length bs) long)) (omega arith) (omega arith)
    (ap (λ (g : Figures). to_submit g (steps_of (take (8 * c) (drop 14 bs)) c)) (sym figures) ∙ ap (to_submit f) (sym read)) past

no_size : (n : ℕ) (bs : List ℕ) (k : Filed) → (n ≤ length bs → ⊥) → sized n bs k ≡ None
no_size n bs k h = cond-false (leb n (length bs)) (Some (k, drop n bs)) None (lt-leb n (length bs) (omega (arith, h)))

by_test : {X : Type 0} (t : Bool) (x y z : X) → (t ≡ true → x ≡ z) → y ≡ z → cond t x y ≡ z
by_test true x y z p q = p refl
by_test false x y z p q = q

-- a submission whose steps are cut
pub cut_steps : (bs rest : List ℕ) → get_or bs 0 0 ≡ 83 → rest ≡ drop 14 bs → length rest < 8 * get_or bs 13 0 → first_call bs ≡ None
unfolding first_call
cut_steps bs rest e same h =
    let r : length rest ≡ length bs - 14 = ap length same ∙ length-drop 14 bs in
    ap (λ (x : ℕ). by_letter x bs) e
    ∙ by_test (leb 14 (length bs)) _ _ _ (λ t. let l : 14 ≤ length bs = leb-true 14 (length bs) t in no_size (14 + 8 * get_or bs 13 0) bs _ (λ g. omega arith)) refl

-- bytes that open with no letter, or with one and too few bytes
pub no_call : (bs : List ℕ) →
    (get_or bs 0 0 ≡ 83 → 14 ≤ length bs → ⊥) →
    (get_or bs 0 0 ≡ 87 → 5 ≤ length bs → ⊥) →
    (get_or bs 0 0 ≡ 79 → 1 ≤ length bs → ⊥) →
    (get_or bs 0 0 ≡ 75 → 1 ≤ length bs → ⊥) →
    (get_or bs 0 0 ≡ 67 → 1 ≤ length bs → ⊥) →
    (get_or bs 0 0 ≡ 76 → 9 ≤ length bs → ⊥) → first_call bs ≡ None
unfolding first_call
no_call bs s w o k c l =
    by_test (eqb (get_or bs 0 0) 83) _ _ _ (λ e. by_test (leb 14 (length bs)) _ _ _ (λ t. absurd (s (eqb-true _ _ e) (leb-true 14 (length bs) t))) refl)
    (by_test (eqb (get_or bs 0 0) 87) _ _ _ (λ e. no_size 5 bs _ (w (eqb-true _ _ e)))
    (by_test (eqb (get_or bs 0 0) 79) _ _ _ (λ e. no_size 1 bs _ (o (eqb-true _ _ e)))
    (by_test (eqb (get_or bs 0 0) 75) _ _ _ (λ e. no_size 1 bs _ (k (eqb-true _ _ e)))
    (by_test (eqb (get_or bs 0 0) 67) _ _ _ (λ e. no_size 1 bs _ (c (eqb-true _ _ e)))
    (by_test (eqb (get_or bs 0 0) 76) _ _ _ (λ e. no_size 9 bs _ (l (eqb-true _ _ e))) refl)))))
