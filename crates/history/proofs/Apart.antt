-- No two rows have one number, so that taking out the row of a number leaves exactly the rows of others.
use Rattle.std.proofs.Common.{◌≡◌, ℕ, Bool, true, false, cond, not, eqb, List, [], ◌∷◌, ◌++◌, ◌+ℤ◌, neg_ℤ, Some, None, filter, Option, sym, refl, ap, subst, arith, ne_eqb, eqb-true, eq-eqb}
use Rattle.std.proofs.lemmas.Bool.{both_ways}
use Rattle.std.proofs.lemmas.Int.{ints}
use Rattle.rights.specs.declared.row.Row.{Row}
use Rattle.history.specs.Rows.{find, without}
use Rattle.history.specs.Sums.{sum}

none_split : (b : Bool) (x : Row) (o : Option Row) → cond b (Some x) o ≡ None → (b ≡ false) × (o ≡ None)
none_split true x o h = let z : ◌≡◌ {A = ℕ} 0 1 = cc in absurd (omega arith)
none_split false x o h = (refl, h)

find_none : (n : ℕ) (xs : List Row) (q : Row) → find n xs ≡ None → eqb q.submission.number n ≡ false → find n (xs ++ (q ∷ [])) ≡ None
find_none n [] q h e = rw e
find_none n (r ∷ xs) q h e =
    let s = none_split (eqb r.submission.number n) r (find n xs) h in
    rw s.0 (find_none n xs q s.1 e)

abbrev pub Apart : List Row → Type 0
Apart [] = Unit {0}
Apart (r ∷ rs) = (find r.submission.number rs ≡ None) × Apart rs

eqb_sym : (a b : ℕ) → eqb a b ≡ false → eqb b a ≡ false
eqb_sym a b h = ne_eqb b a (λ e. both_ways (eqb a b) h (eq-eqb a b (sym e)))

pub apart_push : (rs : List Row) (q : Row) → Apart rs → find q.submission.number rs ≡ None → Apart (rs ++ (q ∷ []))
apart_push [] q a h = (refl, tt)
apart_push (r ∷ rs) q a h =
    let s = none_split (eqb r.submission.number q.submission.number) r (find q.submission.number rs) h in
    (find_none r.submission.number rs q a.0 (eqb_sym r.submission.number q.submission.number s.0), apart_push rs q a.1 s.1)

none_cond : (b : Bool) (x : Row) (o : Option Row) → b ≡ false → o ≡ None → cond b (Some x) o ≡ None
none_cond b x o h e = rw h e

find_without : (k n : ℕ) (rs : List Row) → find k rs ≡ None → find k (without n rs) ≡ None
find_without k n [] h = refl
find_without k n (r ∷ rs) h =
    let s = none_split (eqb r.submission.number k) r (find k rs) h in
    elim (eqb r.submission.number n) as (λ b. find k (cond b rs (r ∷ without n rs)) ≡ None)
    [ true ↦ s.1 | false ↦ none_cond (eqb r.submission.number k) r (find k (without n rs)) s.0 (find_without k n rs s.1) ]

pub apart_without : (n : ℕ) (rs : List Row) → Apart rs → Apart (without n rs)
apart_without n [] a = tt
apart_without n (r ∷ rs) a =
    elim (eqb r.submission.number n) as (λ b. Apart (cond b rs (r ∷ without n rs)))
    [ true ↦ a.1 | false ↦ (find_without r.submission.number n rs a.0, apart_without n rs a.1) ]

abbrev pub other : ℕ → Row → Bool
other n r = not (cond (eqb r.submission.number n) true false)

kept_all : (n : ℕ) (rs : List Row) → find n rs ≡ None → filter (other n) rs ≡ rs
kept_all n [] h = refl
kept_all n (r ∷ rs) h =
    let s = none_split (eqb r.submission.number n) r (find n rs) h in
    rw s.0 (ap (λ (xs : List Row). r ∷ xs) (kept_all n rs s.1))

pub without_kept : (n : ℕ) (rs : List Row) → Apart rs → without n rs ≡ filter (other n) rs
without_kept n [] a = refl
without_kept n (r ∷ rs) a = go (without_kept n rs a.1) (eqb r.submission.number n) refl
  where
    go : without n rs ≡ filter (other n) rs → (b : Bool) → eqb r.submission.number n ≡ b → cond b rs (r ∷ without n rs) ≡ cond (not (cond b true false)) (r ∷ filter (other n) rs) (filter (other n) rs)
    go i true e = sym (kept_all n rs (subst (λ (k : ℕ). find k rs ≡ None) (eqb-true r.submission.number n e) a.0))
    go i false e = ap (λ (xs : List Row). r ∷ xs) i

-- taking out a row takes its exposure from the sum
pub sum_without : (n : ℕ) (rs : List Row) (r : Row) → find n rs ≡ Some r → sum (without n rs) ≡ sum rs +ℤ neg_ℤ r.exposure
sum_without n [] r h = let z : ◌≡◌ {A = ℕ} 0 1 = cc in absurd (omega arith)
sum_without n (q ∷ rs) r h = go (λ k. sum_without n rs r k) (eqb q.submission.number n) h
  where
    go : (find n rs ≡ Some r → sum (without n rs) ≡ sum rs +ℤ neg_ℤ r.exposure) → (b : Bool) → cond b (Some q) (find n rs) ≡ Some r → sum (cond b rs (q ∷ without n rs)) ≡ (q.exposure +ℤ sum rs) +ℤ neg_ℤ r.exposure
    go i true k = let e : q ≡ r = cc in let x = ap (λ (w : Row). w.exposure) e in omega (arith, ints)
    go i false k = let j = i k in omega (arith, ints)
