-- The numbers that stand in chunks of four bytes.
use Rattle.std.proofs.Common.{◌≡◌, ℕ, zero, suc, ◌+◌, ◌*◌, ◌<◌, ◌≤◌, List, [], ◌∷◌, length, get_or, take, drop, ℤ, Some, None, Option, leb, sym, refl, ap, ◌∙◌, arith, lit<, le-leb, add-zero}
use Rattle.std.specs.Simd.{first_chunks}
use Rattle.std.proofs.lemmas.Bool.{cond-true}
use Rattle.std.proofs.lemmas.List.{drop-drop, get_or-drop, get_or-take}
use Rattle.dayformat.specs.Bytes.{le2, le4, le8, le4_signed}
use Rattle.dayformat.specs.Valuations.{Valued, by_rates, rates_of, rates_valued}

chunk_at : (n i : ℕ) (bs : List ℕ) → i < n → get_or (first_chunks 4 n bs) i [] ≡ take 4 (drop (4 * i) bs)
chunk_at zero i bs h = absurd (omega arith)
chunk_at (suc n) zero bs h = refl
chunk_at (suc n) (suc i) bs h =
    chunk_at n i (drop 4 bs) (omega arith) ∙ ap (take 4) (drop-drop (4 * i) 4 bs) ∙ ap (λ (at : ℕ). take 4 (drop at bs)) (omega arith)

module _ (bs : List ℕ) (at : ℕ) where
  byte_at : (n j : ℕ) → j < n → get_or (take n (drop at bs)) j 0 ≡ get_or bs (at + j) 0
  byte_at n j h = get_or-take n (drop at bs) j 0 h ∙ get_or-drop at bs j 0

  first_at : (n : ℕ) → 0 < n → get_or (take n (drop at bs)) 0 0 ≡ get_or bs at 0
  first_at n h = byte_at n 0 h ∙ ap (λ (k : ℕ). get_or bs k 0) (add-zero at)

  pub le2_at : le2 (take 2 (drop at bs)) 0 ≡ le2 bs at
  le2_at = let b0 = first_at 2 (lit< tt) in let b1 = byte_at 2 1 (lit< tt) in cc

  le4_at : le4 (take 4 (drop at bs)) 0 ≡ le4 bs at
  le4_at = let b0 = first_at 4 (lit< tt) in let b1 = byte_at 4 1 (lit< tt) in let b2 = byte_at 4 2 (lit< tt) in let b3 = byte_at 4 3 (lit< tt) in cc

  pub le8_at : le8 (take 8 (drop at bs)) 0 ≡ le8 bs at
  le8_at =
      let b0 = first_at 8 (lit< tt) in
      let b1 = byte_at 8 1 (lit< tt) in
      let b2 = byte_at 8 2 (lit< tt) in
      let b3 = byte_at 8 3 (lit< tt) in
      let b4 = byte_at 8 4 (lit< tt) in
      let b5 = byte_at 8 5 (lit< tt) in
      let b6 = byte_at 8 6 (lit< tt) in
      let b7 = byte_at 8 7 (lit< tt) in
      cc

-- the number of a chunk stands four bytes past the one before
pub number_at : (bs : List ℕ) (chunks : List (List ℕ)) (n i : ℕ) → chunks ≡ first_chunks 4 n bs → i < n → le4 (get_or chunks i []) 0 ≡ le4 bs (4 * i)
number_at bs chunks n i e h = ap (λ (ws : List (List ℕ)). le4 (get_or ws i []) 0) e ∙ ap (λ (w : List ℕ). le4 w 0) (chunk_at n i bs h) ∙ le4_at bs (4 * i)

-- four numbers are the rates, and what is past them follows
pub rates_in : (bs rest : List ℕ) {a b c d : ℤ} → a ≡ le4_signed bs 0 → b ≡ le4_signed bs 4 → c ≡ le4_signed bs 8 → d ≡ le4_signed bs 12 → rest ≡ drop 16 bs → 16 ≤ length bs →
    ◌≡◌ {A = Option (Valued × List ℕ)} (Some (by_rates (a ∷ b ∷ c ∷ d ∷ []), rest)) (rates_valued bs)
rates_in bs rest {a} {b} {c} {d} p q r s past long =
    let same : ◌≡◌ {A = Option (Valued × List ℕ)} (Some (by_rates (a ∷ b ∷ c ∷ d ∷ []), rest)) (Some (by_rates (rates_of bs), drop 16 bs)) = cc in
    same ∙ sym (cond-true (leb 16 (length bs)) (Some (by_rates (rates_of bs), drop 16 bs)) None (le-leb 16 (length bs) long))
