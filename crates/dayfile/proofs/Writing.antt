-- One write after another.
use Rattle.std.proofs.Common.{◌≡◌, ℕ, ◌+◌, ◌≤◌, List, ◌++◌, length, take, drop, ℤ, decimal, sym, ap, ◌∙◌, append_assoc, arith, length-append}
use Rattle.std.proofs.lemmas.List.{length-take-le, take_at}
use Rattle.std.proofs.lemmas.Slice.{drop-append-drop}
use Rattle.dayfile.specs.Puts.{written}
use Rattle.std.specs.Fmt.{signed_decimal}
use Rattle.dayfile.specs.Puts.{over, Wrote}
use Rattle.dayfile.specs.Lines.{line, closing}

-- bytes written just past a front
pub onto : (f b xs : List ℕ) (n : ℕ) → length f ≡ n → written (f ++ drop n xs) n b ≡ f ++ (b ++ drop (n + length b) xs)
onto f b xs n e =
    let t : take n (f ++ drop n xs) ≡ f = take_at f (drop n xs) n e in
    let d : drop (n + length b) (f ++ drop n xs) ≡ drop (n + length b) xs = drop-append-drop n xs f (n + length b) (omega arith) e in
    ap (λ (l : List ℕ). l ++ (b ++ drop (n + length b) (f ++ drop n xs))) t ∙ ap (λ (l : List ℕ). f ++ (b ++ l)) d

pub written_then : (xs a b : List ℕ) (at : ℕ) → at ≤ length xs → written (written xs at a) (at + length a) b ≡ written xs at (a ++ b)
written_then xs a b at h =
    let l : length (take at xs ++ a) ≡ at + length a = length-append (take at xs) a ∙ ap (λ (k : ℕ). k + length a) (length-take-le at xs h) in
    let p : at + length a + length b ≡ at + length (a ++ b) = let q : length (a ++ b) ≡ length a + length b = length-append a b in omega arith in
    ap (λ (l : List ℕ). written l (at + length a) b) (sym (append_assoc (take at xs) a (drop (at + length a) xs)))
    ∙ onto (take at xs ++ a) b xs (at + length a) l
    ∙ append_assoc (take at xs) a (b ++ drop (at + length a + length b) xs)
    ∙ ap (λ (l : List ℕ). take at xs ++ l) (sym (append_assoc a b (drop (at + length a + length b) xs)))
    ∙ ap (λ (k : ℕ). take at xs ++ ((a ++ b) ++ drop k xs)) p

-- what is written so far stands over what was there
pub over_then : (f b xs : List ℕ) (n : ℕ) → length f ≡ n → written (over f xs) n b ≡ over (f ++ b) xs
over_then f b xs n e =
    let p : n + length b ≡ length (f ++ b) = let q : length (f ++ b) ≡ length f + length b = length-append f b in omega arith in
    ap (λ (k : ℕ). written (f ++ drop k xs) n b) e
    ∙ onto f b xs n e
    ∙ sym (append_assoc f b (drop (n + length b) xs))
    ∙ ap (λ (k : ℕ). (f ++ b) ++ drop k xs) p

-- two pieces in a row
pub wrote_then : {xs ys zs a b : List ℕ} {at p q : ℕ} → at ≤ length xs → Wrote xs at a p ys → Wrote ys p b q zs → Wrote xs at (a ++ b) q zs
wrote_then {xs} {ys} {zs} {a} {b} {at} {p} {q} h one two =
    let l : length (a ++ b) ≡ length a + length b = length-append a b in
    record {
      place = let e = one.place in let f = two.place in omega arith;
      after = two.after ∙ ap (λ (l : List ℕ). written l p b) one.after ∙ ap (λ (k : ℕ). written (written xs at a) k b) one.place ∙ written_then xs a b at h;
    }

pub wrote_as : {xs ys a b : List ℕ} {at p : ℕ} → a ≡ b → Wrote xs at a p ys → Wrote xs at b p ys
wrote_as {xs} {ys} {a} {b} {at} {p} e w = record { place = w.place ∙ ap (λ (l : List ℕ). at + length l) e; after = w.after ∙ ap (written xs at) e }

pub line_long : (c n : ℕ) (x : ℤ) → length (line c n x) ≡ length (decimal n) + length (signed_decimal x) + 4
line_long c n x = simp length-append (omega arith)

pub closing_long : (place : ℕ) → length (closing place) ≡ length (decimal place) + 6
closing_long place = simp length-append (omega arith)
