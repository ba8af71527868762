-- What stands with some numbers gone is what stands, less the rows of those numbers.
use Rattle.std.proofs.Common.{◌≡◌, ℕ, Bool, true, false, cond, not, eqb, List, [], ◌∷◌, ◌++◌, Ok, Err, filter, sym, refl, ap, ◌∙◌}
use Rattle.std.proofs.lemmas.List.Elements.{filter-append}
use Rattle.market.specs.declared.right.Right.{Right}
use Rattle.rights.specs.declared.row.Row.{Row}
use Rattle.rights.specs.Covers.{cover_of}
use Rattle.history.specs.Events.{Event, submitted, withdrew, batched, limited}
use Rattle.history.specs.Histories.{among, entered, stand}

abbrev pub left : List ℕ → Row → Bool
left gone r = not (among r.submission.number gone)

kept_kept : (n : ℕ) (gone : List ℕ) (rs : List Row) → filter (left gone) (filter (left (n ∷ [])) rs) ≡ filter (left (n ∷ gone)) rs
kept_kept n gone [] = refl
kept_kept n gone (r ∷ rs) = go (kept_kept n gone rs) (eqb r.submission.number n)
  where
    go : filter (left gone) (filter (left (n ∷ [])) rs) ≡ filter (left (n ∷ gone)) rs → (b : Bool) →
        filter (left gone) (cond (not (cond b true false)) (r ∷ filter (left (n ∷ [])) rs) (filter (left (n ∷ [])) rs))
        ≡ cond (not (cond b true (among r.submission.number gone))) (r ∷ filter (left (n ∷ gone)) rs) (filter (left (n ∷ gone)) rs)
    go i true = i
    go i false = ap (λ (xs : List Row). cond (not (among r.submission.number gone)) (r ∷ xs) xs) i

one_kept : (gone : List ℕ) (r : Row) (xs : List Row) → xs ++ cond (among r.submission.number gone) [] (r ∷ []) ≡ xs ++ filter (left gone) (r ∷ [])
one_kept gone r xs = elim (among r.submission.number gone) as (λ b. xs ++ cond b [] (r ∷ []) ≡ xs ++ cond (not b) (r ∷ []) []) [ true ↦ refl | false ↦ refl ]

pub stand_gone : (rights : List Right) (gone : List ℕ) (es : List Event) → stand rights gone es ≡ filter (left gone) (stand rights [] es)
stand_gone rights gone [] = refl
stand_gone rights gone (submitted s m (Ok a) ∷ es) =
    let q : Row = entered s m (cover_of rights (stand rights [] es) s) in
    ap (λ (xs : List Row). xs ++ cond (among s.number gone) [] (q ∷ [])) (stand_gone rights gone es)
    ∙ one_kept gone q (filter (left gone) (stand rights [] es)) ∙ sym (filter-append (left gone) (stand rights [] es) (q ∷ []))
stand_gone rights gone (submitted s m (Err f) ∷ es) = stand_gone rights gone es
stand_gone rights gone (withdrew n (Ok x) ∷ es) =
    stand_gone rights (n ∷ gone) es ∙ sym (kept_kept n gone (stand rights [] es)) ∙ ap (filter (left gone)) (sym (stand_gone rights (n ∷ []) es))
stand_gone rights gone (withdrew n (Err f) ∷ es) = stand_gone rights gone es
stand_gone rights gone (batched c r ∷ es) = stand_gone rights gone es
stand_gone rights gone (limited l r ∷ es) = stand_gone rights gone es
