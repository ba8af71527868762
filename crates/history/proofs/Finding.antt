-- The first row of a number, by its place: where a search stops tells the row, and how to take it out.
use Rattle.std.proofs.Common.{◌≡◌, ℕ, suc, ◌+◌, Bool, true, false, cond, eqb, ltb, List, [], ◌∷◌, length, Some, None, Option, Err, is_some, slice_index_or, sym, refl, ap, ◌∙◌, subst, arith}
use Rattle.std.proofs.lemmas.Bool.{both_ways, lt-ltb, le-ltb, ltb-true, ltb-false}
use Rattle.std.specs.Option.{ok_or}
use Rattle.std.specs.List.{position, position_or_len}
use Rattle.rights.specs.declared.row.Row.{Row}
use Rattle.history.specs.Rows.{find, Placed}

-- the row has the number
abbrev pub bears : ℕ → Row → Bool
bears n r = eqb r.submission.number n

-- a row of another number goes before
behind : (n : ℕ) (r : Row) (rs : List Row) (k : ℕ) (b : Bool) → eqb r.submission.number n ≡ false → Placed n rs (cond b (Some k) None) → Placed n (r ∷ rs) (cond b (Some (suc k)) None)
behind n r rs k true e p = (omega (arith, p.0), (λ d. rw e (p.1 d)), rw e (ap (λ (zs : List Row). r ∷ zs) p.2))
behind n r rs k false e p = rw e p

placed_by : (n : ℕ) (r : Row) (rs : List Row) (b : Bool) → eqb r.submission.number n ≡ b → Placed n rs (position (bears n) rs) → Placed n (r ∷ rs) (cond b (Some 0) (cond (ltb (position_or_len (bears n) rs) (length rs)) (Some (suc (position_or_len (bears n) rs))) None))
placed_by n r rs true e p = (omega arith, (λ d. rw e refl), rw e refl)
placed_by n r rs false e p = behind n r rs (position_or_len (bears n) rs) (ltb (position_or_len (bears n) rs) (length rs)) e p

one_more : (k m : ℕ) (b : Bool) → ltb k m ≡ b → ltb (suc k) (suc m) ≡ b
one_more k m true e = lt-ltb (suc k) (suc m) (omega (arith, ltb-true k m e))
one_more k m false e = le-ltb (suc k) (suc m) (omega (arith, ltb-false k m e))

first : (n : ℕ) (r : Row) (rs : List Row) (b : Bool) → eqb r.submission.number n ≡ b →
    position (bears n) (r ∷ rs) ≡ cond b (Some 0) (cond (ltb (position_or_len (bears n) rs) (length rs)) (Some (suc (position_or_len (bears n) rs))) None)
first n r rs true e = rw e (ap (λ (b : Bool). cond b (Some 0) None) (lt-ltb 0 (length (r ∷ rs)) (omega arith)))
first n r rs false e =
    let k = position_or_len (bears n) rs in
    let more : 1 + k ≡ suc k = omega arith in
    rw e (ap (λ (m : ℕ). cond (ltb m (length (r ∷ rs))) (Some m) None) more ∙ ap (λ (b : Bool). cond b (Some (suc k)) None) (one_more k (length rs) (ltb k (length rs)) refl))

pub placed : (n : ℕ) (rs : List Row) → Placed n rs (position (bears n) rs)
placed n [] = refl
placed n (r ∷ rs) =
    let b = eqb r.submission.number n in
    subst (Placed n (r ∷ rs)) (sym (first n r rs b refl)) (placed_by n r rs b refl (placed n rs))

-- whether there is a place is whether the number stands
pub standing : (n : ℕ) (rs : List Row) (o : Option ℕ) (d : Row) → Placed n rs o → is_some o ≡ true → (r : Row) × (find n rs ≡ Some r)
standing n rs None d p e = absurd (both_ways false refl e)
standing n rs (Some i) d p e = (slice_index_or rs i d, p.1 d)

pub not_standing : (n : ℕ) (rs : List Row) (o : Option ℕ) → Placed n rs o → is_some o ≡ false → find n rs ≡ None
not_standing n rs None p e = p
not_standing n rs (Some i) p e = absurd (both_ways true e refl)

pub no_place : {E : Type 0} (n : ℕ) (rs : List Row) (o : Option ℕ) (f g : E) → Placed n rs o → Err f ≡ ok_or o g → (find n rs ≡ None) × (f ≡ g)
no_place n rs None f g p e = (p, cc)
no_place n rs (Some k) f g p e = let z : ◌≡◌ {A = ℕ} 0 1 = cc in absurd (omega arith)
