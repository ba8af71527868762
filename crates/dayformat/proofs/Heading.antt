-- A file has a header where each test of the definition is passed, and none where one fails.
use Rattle.std.proofs.Common.{◌≡◌, ℕ, ◌+◌, ◌-◌, ◌*◌, ◌/◌, ◌<◌, ◌≤◌, Bool, true, false, cond, ◌&&◌, eqb, leb, List, map, length, get_or, take, drop, ℤ, Some, None, Option, sym, refl, ap, ◌∙◌, arith, length-drop, le-leb, leb-true, eqb-true, to_z, w64}
use Rattle.std.proofs.lemmas.Bool.{both_ways}
use Rattle.std.proofs.Math.ListN.{drop_of_length-le}
use Rattle.std.specs.Simd.{first_chunks}
use Rattle.std.proofs.lemmas.List.{drop-drop, length-take-le}
use Rattle.std.proofs.lemmas.Bool.{and_from, and_parts, cond-true}
use Rattle.market.specs.declared.right.Right.{Right}
use Rattle.dayformat.specs.Bytes.{le2, le8_signed}
use Rattle.dayformat.proofs.Chunks.{le2_at, le8_at}
use Rattle.dayformat.specs.Headers.{marked, opened, right_of, rights_of, Head, headed, head_by, header}
use Rattle.dayformat.specs.Valuations.{Valued, rates_valued, pages_valued, valued_by}

none_unless : {X : Type 0} (t : Bool) (o : Option X) → (t ≡ true → ⊥) → None ≡ cond t o None
none_unless true o h = absurd (h refl)
none_unless false o h = refl

none_by : {X : Type 0} (t : Bool) (x : X) → None ≡ cond t (Some x) None → t ≡ false
none_by true x e = let z : ◌≡◌ {A = ℕ} 0 1 = cc in absurd (omega arith)
none_by false x e = refl

pub some_by : {X : Type 0} (t : Bool) (x y : X) → Some y ≡ cond t (Some x) None → (t ≡ true) × (y ≡ x)
some_by true x y e = (refl, cc)
some_by false x y e = let z : ◌≡◌ {A = ℕ} 0 1 = cc in absurd (omega arith)

none_past : (n : ℕ) (bs : List ℕ) → length bs ≤ n → None ≡ valued_by (drop n bs)
none_past n bs h = ap valued_by (sym (drop_of_length-le bs h))

shorter : (n : ℕ) (bs calls : List ℕ) → calls ≡ drop n bs → length calls ≤ length bs
shorter n bs calls e = let d : length calls ≡ length bs - n = ap length e ∙ length-drop n bs in omega arith

-- the calls lie inside the bytes that bring the rule
valued_inside : (bs : List ℕ) (v : Valued) (calls : List ℕ) → Some (v, calls) ≡ valued_by bs → length calls ≤ length bs
valued_inside bs v calls e = by_rates_or (eqb (get_or bs 0 0) 1) e
  where
    behind : List ℕ
    behind = drop 1 bs

    in_all : length calls ≤ length behind → length calls ≤ length bs
    in_all h = let d : length behind ≡ length bs - 1 = length-drop 1 bs in omega arith

    by_pages_or : (t : Bool) → Some (v, calls) ≡ cond t (pages_valued (drop 1 bs)) None → length calls ≤ length bs
    by_pages_or true k = in_all (shorter (4 + 5760 * get_or behind 3 0) behind calls (ap (λ (p : Valued × List ℕ). p.1) (some_by _ _ (v, calls) k).1))
    by_pages_or false k = let z : ◌≡◌ {A = ℕ} 0 1 = cc in absurd (omega arith)

    by_rates_or : (t : Bool) → Some (v, calls) ≡ cond t (rates_valued (drop 1 bs)) (cond (eqb (get_or bs 0 0) 2) (pages_valued (drop 1 bs)) None) → length calls ≤ length bs
    by_rates_or true k = in_all (shorter 16 behind calls (ap (λ (p : Valued × List ℕ). p.1) (some_by _ _ (v, calls) k).1))
    by_rates_or false k = by_pages_or (eqb (get_or bs 0 0) 2) k

module _ (bs : List ℕ) where
  abbrev Opens : Type 0
  Opens = (leb 15 (length bs) && marked bs) ≡ true

  pub no_opening : (15 ≤ length bs → get_or bs 0 0 ≡ 68 → get_or bs 1 0 ≡ 67 → get_or bs 2 0 ≡ 66 → get_or bs 3 0 ≡ 1 → get_or bs 4 0 ≡ 0 → ⊥) → None ≡ opened bs
  no_opening h =
      none_unless (leb 15 (length bs) && marked bs) _ (λ e.
      let p = and_parts _ _ e in
      let a = and_parts _ _ p.1 in
      let b = and_parts _ _ a.1 in
      let c = and_parts _ _ b.1 in
      let d = and_parts _ _ c.1 in
      h (leb-true _ _ p.0) (eqb-true _ _ a.0) (eqb-true _ _ b.0) (eqb-true _ _ c.0) (eqb-true _ _ d.0) (eqb-true _ _ d.1))

  pub opens_with : (first second third fourth fifth : List ℕ) (l : ℤ) (n : ℕ) → first ≡ drop 5 bs → (second ≡ take 8 first) × (third ≡ drop 8 first) →
      (fourth ≡ take 2 third) × (fifth ≡ drop 2 third) → l ≡ le8_signed second 0 → n ≡ le2 fourth 0 → 15 ≤ length bs → marked bs ≡ true →
      Some (l, n, fifth) ≡ opened bs
  opens_with first second third fourth fifth l n behind limit count reads counts long m =
      let limits : l ≡ le8_signed bs 5 = reads ∙ ap (λ (xs : List ℕ). le8_signed xs 0) (limit.0 ∙ ap (take 8) behind) ∙ ap (to_z w64) (le8_at bs 5) in
      let past : third ≡ drop 13 bs = limit.1 ∙ ap (drop 8) behind ∙ drop-drop 8 5 bs in
      let counted : n ≡ le2 bs 13 = counts ∙ ap (λ (xs : List ℕ). le2 xs 0) (count.0 ∙ ap (take 2) past) ∙ le2_at bs 13 in
      let rest : fifth ≡ drop 15 bs = count.1 ∙ ap (drop 2) past ∙ drop-drop 2 13 bs in
      let same : ◌≡◌ {A = Option (ℤ × ℕ × List ℕ)} (Some (l, n, fifth)) (Some (le8_signed bs 5, le2 bs 13, drop 15 bs)) = cc in
      same ∙ sym (cond-true (leb 15 (length bs) && marked bs) _ None (and_from _ _ (le-leb _ _ long) m))

  unless : (length bs ≤ 65536 → Opens → le2 bs 13 ≤ 200 → ⊥) → None ≡ header bs
  unfolding header
  unless h =
      none_unless (headed bs) _ (λ e.
      let p = and_parts _ _ e in
      let q = and_parts _ _ p.1 in
      h (leb-true _ _ p.0) q.0 (leb-true _ _ q.1))

  pub too_long : 65536 < length bs → None ≡ header bs
  too_long h = unless (λ short o few. omega arith)

  pub unopened : None ≡ opened bs → None ≡ header bs
  unopened e = unless (λ short o few. both_ways _ (none_by _ (le8_signed bs 5, le2 bs 13, drop 15 bs) e) o)

  module _ (limit : ℤ) (n : ℕ) (rest : List ℕ) (opens : Some (limit, n, rest) ≡ opened bs) where
    opened_by : Opens × (limit ≡ le8_signed bs 5) × (n ≡ le2 bs 13) × (rest ≡ drop 15 bs)
    opened_by =
        let p = some_by _ (le8_signed bs 5, le2 bs 13, drop 15 bs) (limit, n, rest) opens in
        let same = p.1 in
        (p.0, ap (λ (q : ℤ × ℕ × List ℕ). q.0) same, ap (λ (q : ℤ × ℕ × List ℕ). q.1) same, ap (λ (q : ℤ × ℕ × List ℕ). q.2) same)

    pub too_many : 200 < n → None ≡ header bs
    too_many h = let e : n ≡ le2 bs 13 = opened_by.2 in unless (λ short o few. omega arith)

    pub calls_inside : (behind calls : List ℕ) (v : Valued) → behind ≡ drop (9 * n) rest → Some (v, calls) ≡ valued_by behind → length calls ≤ length bs
    calls_inside behind calls v past is =
        let a = valued_inside behind v calls is in
        let b = shorter (9 * n) rest behind past in
        let c = shorter 15 bs rest opened_by.3 in
        omega arith

    module _ (short : length bs ≤ 65536) (few : n ≤ 200) where
      -- past these tests the rule byte decides
      past : header bs ≡ head_by bs (valued_by (drop (9 * n) rest))
      unfolding header
      past =
          let e : n ≡ le2 bs 13 = opened_by.2 in
          let low : le2 bs 13 ≤ 200 = omega arith in
          let behind : drop (15 + 9 * le2 bs 13) bs ≡ drop (9 * n) rest =
          ap (λ (m : ℕ). drop (15 + 9 * m) bs) (sym e) ∙ sym (ap (drop (9 * n)) opened_by.3 ∙ drop-drop (9 * n) 15 bs) in
          cond-true (headed bs) _ None (and_from _ _ (le-leb _ _ short) (and_from _ _ opened_by.0 (le-leb _ _ low)))
          ∙ ap (λ (l : List ℕ). head_by bs (valued_by l)) behind

      pub unvalued : None ≡ valued_by (drop (9 * n) rest) → None ≡ header bs
      unvalued v = ap (head_by bs) v ∙ sym past

      -- the rights are cut, and so nothing names a rule
      pub cut_rights : length rest < 9 * n → None ≡ header bs
      cut_rights h = unvalued (none_past (9 * n) rest (omega arith))

      pub has_header : (part behind calls : List ℕ) (l : ℤ) (rights : List Right) (v : Valued) →
          (part ≡ take (9 * n) rest) × (behind ≡ drop (9 * n) rest) × (9 * n ≤ length rest) → Some (v, calls) ≡ valued_by behind →
          l ≡ limit → rights ≡ map right_of (first_chunks 9 (length part / 9) part) →
          Some (record { limit = l; rights = rights; valued = v; calls = calls }) ≡ header bs
      has_header part behind calls l rights v cuts is same are =
          let fits : 9 * n ≤ length rest = cuts.2 in
          let size : length part ≡ 9 * n = ap length cuts.0 ∙ length-take-le (9 * n) rest fits in
          let count : length part / 9 ≡ n = omega arith in
          let here : part ≡ take (9 * n) (drop 15 bs) = cuts.0 ∙ ap (take (9 * n)) opened_by.3 in
          let read : rights ≡ rights_of bs n =
          are ∙ ap (λ (k : ℕ). map right_of (first_chunks 9 k part)) count ∙ ap (λ (xs : List ℕ). map right_of (first_chunks 9 n xs)) here in
          let all : rights ≡ rights_of bs (le2 bs 13) = read ∙ ap (rights_of bs) opened_by.2 in
          let limits : l ≡ le8_signed bs 5 = same ∙ opened_by.1 in
          let head : ◌≡◌ {A = Option Head} (Some (record { limit = l; rights = rights; valued = v; calls = calls })) (head_by bs (Some (v, calls))) = cc in
          head ∙ ap (head_by bs) (is ∙ ap valued_by cuts.1) ∙ sym past
