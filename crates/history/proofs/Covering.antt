-- No right is overdrawn: a cover is at most what is free, and a withdrawal gives its cover back.
use Rattle.std.proofs.Common.{◌≡◌, ℕ, ◌+◌, ◌≤◌, Bool, true, false, cond, eqb, List, [], ◌∷◌, ◌++◌, Some, None, Option, refl, ap, ◌∙◌, arith, eqb-true}
use Rattle.market.specs.declared.right.PathHour.{PathHour}
use Rattle.market.specs.declared.right.Right.{Right}
use Rattle.market.specs.Facts.{left_of, right_of}
use Rattle.market.specs.Reading.{quantity_of}
use Rattle.rights.specs.declared.row.Row.{Row}
use Rattle.rights.specs.Covers.{claimed, cover_at, cover_of, draw, draw_at, drawn, free_of}
use Rattle.rights.specs.Rights.{same_path, tenths_of}
use Rattle.history.specs.Rows.{without}

drawn_push : (p : PathHour) (rs : List Row) (q : Row) → drawn p (rs ++ (q ∷ [])) ≡ drawn p rs + draw p q
drawn_push p [] q = omega arith
drawn_push p (r ∷ rs) q = let i = drawn_push p rs q in omega arith

abbrev pub Covered : List Right → List Row → Type 0
Covered rights rs = (p : PathHour) → drawn p rs ≤ tenths_of rights p

same_is : (p q : PathHour) → same_path p q ≡ true → p ≡ q
same_is p q h =
    let r = right_of (eqb p.source q.source) _ h in
    let source = eqb-true p.source q.source (left_of _ _ h) in
    let sink = eqb-true p.sink q.sink (left_of _ _ r) in
    let hour = eqb-true p.hour q.hour (right_of (eqb p.sink q.sink) _ r) in
    λ i. record { source = source i; sink = sink i; hour = hour i }

module _ (rights : List Right) (rs : List Row) (p : PathHour) (held : drawn p rs ≤ tenths_of rights p) where
  -- what a cover draws is within what is free
  drawn_within : (n : ℕ) (own : Option PathHour) → drawn p rs + draw_at p own (cover_at rights rs n own) ≤ tenths_of rights p
  drawn_within n None = omega (arith, held)
  drawn_within n (Some own) = go (same_path own p) refl
    where
      go : (b : Bool) → same_path own p ≡ b → drawn p rs + cond b (cover_at rights rs n (Some own)) 0 ≤ tenths_of rights p
      go true e = let f : free_of rights rs own ≡ free_of rights rs p = ap (free_of rights rs) (same_is own p e) in omega (arith, held)
      go false e = omega (arith, held)

pub covered_push : (rights : List Right) (rs : List Row) (q : Row) → Covered rights rs → q.cover ≡ cover_of rights rs q.submission → Covered rights (rs ++ (q ∷ []))
covered_push rights rs q h e p =
    let d : drawn p (rs ++ (q ∷ [])) ≡ drawn p rs + draw_at p (claimed q.submission) (cover_of rights rs q.submission)
    = drawn_push p rs q ∙ ap (λ (n : ℕ). drawn p rs + draw_at p (claimed q.submission) n) e in
    let w = drawn_within rights rs p (h p) (quantity_of q.submission) (claimed q.submission) in
    rw d w

drawn_less : (p : PathHour) (n : ℕ) (rs : List Row) → drawn p (without n rs) ≤ drawn p rs
drawn_less p n [] = omega arith
drawn_less p n (r ∷ rs) =
    let i = drawn_less p n rs in
    elim (eqb r.submission.number n) as (λ b. drawn p (cond b rs (r ∷ without n rs)) ≤ drawn p (r ∷ rs)) [ true ↦ omega arith | false ↦ omega arith ]

pub covered_without : (rights : List Right) (n : ℕ) (rs : List Row) → Covered rights rs → Covered rights (without n rs)
covered_without rights n rs h p = let d = drawn_less p n rs in let c = h p in omega arith
