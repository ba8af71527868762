-- Where the pieces of a header stand in its file: the two pages before the calls, and the calls at its end.
use Rattle.std.proofs.Common.{◌≡◌, ℕ, ◌+◌, ◌-◌, ◌*◌, ◌/◌, ◌<◌, ◌≤◌, Bool, true, false, cond, eqb, leb, List, [], length, get_or, take, drop, Some, None, Option, sym, refl, ap, ◌∙◌, arith, length-drop, leb-true}
use Rattle.std.proofs.Math.ListN.{drop_of_length-le}
use Rattle.std.proofs.lemmas.List.{drop-drop, length-take-le}
use Rattle.std.proofs.lemmas.Bool.{and_parts, leb-false}
use Rattle.dayformat.specs.declared.header.LentValuation.{LentValuation}
use Rattle.dayformat.specs.declared.header.LentValuation.TheVariants.{Rates, Protocol}
use Rattle.dayformat.specs.Bytes.{le2}
use Rattle.dayformat.specs.Headers.{Head, headed, head_by, header}
use Rattle.dayformat.specs.Valuations.{Valued, by_rates, by_protocol, rates_of, paged, rates_valued, pages_valued, valued_by, lent, meant, placed, Inside}
use Rattle.dayformat.proofs.Heading.{some_by}

either : {X : Type 0} (t : Bool) (o p : Option X) (P : Type 0) (x : X) → Some x ≡ cond t o p → (Some x ≡ o → P) → (Some x ≡ p → P) → P
either true o p P x e f g = f e
either false o p P x e f g = g e

or_none : {X : Type 0} (t : Bool) (o : Option X) (x : X) → Some x ≡ cond t o None → Some x ≡ o
or_none true o x e = e
or_none false o x e = let z : ◌≡◌ {A = ℕ} 0 1 = cc in absurd (omega arith)

-- pages and calls, one behind the other, in bytes
pub record Lies (bs day_ahead real_time calls : List ℕ) : Type 0 where
  pub points : ℕ
  pub place : ℕ
  pub low : 1 ≤ place
  pub first : day_ahead ≡ take (2880 * points) (drop place bs)
  pub second : real_time ≡ take (2880 * points) (drop (2880 * points) (drop place bs))
  pub rest : calls ≡ drop (place + 5760 * points) bs
  pub within : place + 5760 * points ≤ length bs

-- the same in bytes of which these are past a place
further : (n : ℕ) (bs a b calls : List ℕ) → Lies (drop n bs) a b calls → Lies bs a b calls
further n bs a b calls l =
    let d : length (drop n bs) ≡ length bs - n = length-drop n bs in
    let w = l.within in
    let p = l.low in
    let behind : drop l.place (drop n bs) ≡ drop (n + l.place) bs = drop-drop l.place n bs in
    record {
      points = l.points;
      place = n + l.place;
      low = omega arith;
      first = l.first ∙ ap (take (2880 * l.points)) behind;
      second = l.second ∙ ap (λ (xs : List ℕ). take (2880 * l.points) (drop (2880 * l.points) xs)) behind;
      rest = l.rest ∙ drop-drop (l.place + 5760 * l.points) n bs ∙ ap (λ (k : ℕ). drop k bs) (omega arith);
      within = omega arith;
    }

abbrev kind : Valued → ℕ
kind (by_rates rates) = 1
kind (by_protocol e1 e2 e3 a b) = 2

abbrev first_page : Valued → List ℕ
first_page (by_rates rates) = []
first_page (by_protocol e1 e2 e3 a b) = a

abbrev second_page : Valued → List ℕ
second_page (by_rates rates) = []
second_page (by_protocol e1 e2 e3 a b) = b

module _ (e1 e2 e3 : ℕ) (a b calls : List ℕ) where
  pages_lie : (bs : List ℕ) → Some (by_protocol e1 e2 e3 a b, calls) ≡ pages_valued bs → Lies bs a b calls
  pages_lie bs e =
      let p = get_or bs 3 0 in
      let g = some_by _ (paged (get_or bs 0 0) (get_or bs 1 0) (get_or bs 2 0) p (drop 4 bs), drop (4 + 5760 * p) bs) (by_protocol e1 e2 e3 a b, calls) e in
      let t = and_parts _ _ g.0 in
      let u = and_parts _ _ t.1 in
      record {
        points = p;
        place = 4;
        low = omega arith;
        first = ap (λ (q : Valued × List ℕ). first_page q.0) g.1;
        second = ap (λ (q : Valued × List ℕ). second_page q.0) g.1;
        rest = ap (λ (q : Valued × List ℕ). q.1) g.1;
        within = leb-true _ _ u.1;
      }

  valued_lie : (bs : List ℕ) → Some (by_protocol e1 e2 e3 a b, calls) ≡ valued_by bs → Lies bs a b calls
  valued_lie bs e =
      either (eqb (get_or bs 0 0) 1) (rates_valued (drop 1 bs)) (cond (eqb (get_or bs 0 0) 2) (pages_valued (drop 1 bs)) None) (Lies bs a b calls) (by_protocol e1 e2 e3 a b, calls) e
      (λ r.
      let g = some_by _ (by_rates (rates_of (drop 1 bs)), drop 16 (drop 1 bs)) (by_protocol e1 e2 e3 a b, calls) r in
      let z : 2 ≡ 1 = ap (λ (q : Valued × List ℕ). kind q.0) g.1 in
      absurd (omega arith))
      (λ r. further 1 bs a b calls (pages_lie (drop 1 bs) (or_none _ _ _ r)))

-- bytes that are past a place are the last ones
last : (m : ℕ) (bs rest : List ℕ) → rest ≡ drop m bs → drop (length bs - length rest) bs ≡ rest
last m bs rest e = by_length (leb m (length bs)) refl
  where
    size : length rest ≡ length bs - m
    size = ap length e ∙ length-drop m bs

    by_length : (t : Bool) → leb m (length bs) ≡ t → drop (length bs - length rest) bs ≡ rest
    by_length true h = let l : m ≤ length bs = leb-true m (length bs) h in let n : length bs - length rest ≡ m = omega (arith, size) in ap (λ (k : ℕ). drop k bs) n ∙ sym e
    by_length false h =
        let l : length bs < m = leb-false m (length bs) h in
        let none : rest ≡ [] = e ∙ drop_of_length-le bs (omega arith) in
        drop_of_length-le bs (omega (arith, size)) ∙ sym none

past : (bs : List ℕ) (v : Valued) (calls : List ℕ) → Some (v, calls) ≡ valued_by bs → (m : ℕ) × (calls ≡ drop m bs)
past bs v calls e =
    either (eqb (get_or bs 0 0) 1) (rates_valued (drop 1 bs)) (cond (eqb (get_or bs 0 0) 2) (pages_valued (drop 1 bs)) None) ((m : ℕ) × (calls ≡ drop m bs)) (v, calls) e
    (λ r.
    let g = some_by _ (by_rates (rates_of (drop 1 bs)), drop 16 (drop 1 bs)) (v, calls) r in
    (17, ap (λ (q : Valued × List ℕ). q.1) g.1 ∙ drop-drop 16 1 bs))
    (λ r.
    let p = get_or (drop 1 bs) 3 0 in
    let g = some_by _ (paged (get_or (drop 1 bs) 0 0) (get_or (drop 1 bs) 1 0) (get_or (drop 1 bs) 2 0) p (drop 4 (drop 1 bs)), drop (4 + 5760 * p) (drop 1 bs)) (v, calls) (or_none _ _ _ r) in
    (1 + (4 + 5760 * p), ap (λ (q : Valued × List ℕ). q.1) g.1 ∙ drop-drop (4 + 5760 * p) 1 bs))

-- what is past the rights of a file brings its header's rule and calls
behind : (bs : List ℕ) (h : Head) → Some h ≡ header bs → Some (h.valued, h.calls) ≡ valued_by (drop (15 + 9 * le2 bs 13) bs)
unfolding header
behind bs h e = by_valued (valued_by (drop (15 + 9 * le2 bs 13) bs)) (or_none (headed bs) _ h e)
  where
    same : {x y : Head} → Some x ≡ Some y → x ≡ y
    same q = cc

    by_valued : (o : Option (Valued × List ℕ)) → Some h ≡ head_by bs o → Some (h.valued, h.calls) ≡ o
    by_valued None q = let z : ◌≡◌ {A = ℕ} 0 1 = cc in absurd (omega arith)
    by_valued (Some p) q = ap (λ (x : Head). Some (x.valued, x.calls)) (same q)

module _ (bs : List ℕ) (h : Head) (is : Some h ≡ header bs) where
  -- the calls are the last bytes of the file
  pub calls_last : drop (length bs - length h.calls) bs ≡ h.calls
  calls_last =
      let m = past (drop (15 + 9 * le2 bs 13) bs) h.valued h.calls (behind bs h is) in
      last (15 + 9 * le2 bs 13 + m.0) bs h.calls (m.1 ∙ drop-drop m.0 (15 + 9 * le2 bs 13) bs)

  pages_last : (e1 e2 e3 : ℕ) (a b : List ℕ) → h.valued ≡ by_protocol e1 e2 e3 a b → Lies bs a b h.calls
  pages_last e1 e2 e3 a b v =
      further (15 + 9 * le2 bs 13) bs a b h.calls
      (valued_lie e1 e2 e3 a b h.calls (drop (15 + 9 * le2 bs 13) bs) (ap (λ (x : Valued). Some (x, h.calls)) (sym v) ∙ behind bs h is))

  -- a valuation by its places is the one that the file lends
  pub placed_as : (v : LentValuation) → h.valued ≡ lent v → meant bs (placed (length bs - length h.calls) v) ≡ lent v
  placed_as (Rates prices) e = refl
  placed_as (Protocol factors day_ahead real_time) e =
      let e1 = get_or factors 0 0 in
      let e2 = get_or factors 1 0 in
      let e3 = get_or factors 2 0 in
      let a = day_ahead.now in
      let l = pages_last e1 e2 e3 a real_time.now e in
      let p = l.points in
      let q = l.place in
      let w = l.within in
      let long : length (drop q bs) ≡ length bs - q = length-drop q bs in
      let size : length a ≡ 2880 * p = ap length l.first ∙ length-take-le (2880 * p) (drop q bs) (omega arith) in
      let calls : length h.calls ≡ length bs - (q + 5760 * p) = ap length l.rest ∙ length-drop (q + 5760 * p) bs in
      let points : length a / 2880 ≡ p = omega arith in
      let place : length bs - length h.calls - 2 * length a ≡ q = omega arith in
      ap (λ (n : ℕ). paged e1 e2 e3 n (drop (length bs - length h.calls - 2 * length a) bs)) points
      ∙ ap (λ (n : ℕ). paged e1 e2 e3 p (drop n bs)) place
      ∙ ap (λ (xs : List ℕ). by_protocol e1 e2 e3 xs (take (2880 * p) (drop (2880 * p) (drop q bs)))) (sym l.first)
      ∙ ap (by_protocol e1 e2 e3 a) (sym l.second)

  pub placed_inside : (v : LentValuation) → h.valued ≡ lent v → Inside (length bs) (placed (length bs - length h.calls) v)
  placed_inside (Rates prices) e = tt
  placed_inside (Protocol factors day_ahead real_time) e =
      let l = pages_last (get_or factors 0 0) (get_or factors 1 0) (get_or factors 2 0) day_ahead.now real_time.now e in
      let p = l.points in
      let q = l.place in
      let w = l.within in
      let long : length (drop q bs) ≡ length bs - q = length-drop q bs in
      let size : length day_ahead.now ≡ 2880 * p = ap length l.first ∙ length-take-le (2880 * p) (drop q bs) (omega arith) in
      let calls : length h.calls ≡ length bs - (q + 5760 * p) = ap length l.rest ∙ length-drop (q + 5760 * p) bs in
      omega arith
