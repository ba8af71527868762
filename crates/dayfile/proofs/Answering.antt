-- A text that is written over the first bytes of an answer is written over the answer.
use Rattle.std.proofs.Common.{◌≡◌, ℕ, ◌≤◌, List, ◌++◌, length, take, drop, Ok, sym, ap, ◌∙◌, append_assoc, take-append-drop, zero-add, arith}
use Rattle.std.proofs.lemmas.List.{drop-append-le, length-take-le}
use Rattle.dayfile.specs.Puts.{over, Wrote, Filled}
use Rattle.dayfile.specs.Runs.{Answered}

pub filled_first : (text bs before now' : List ℕ) (end : ℕ) → Wrote before 0 bs end now' → bs ≡ text → end ≤ 49152 → Filled text before end now'
filled_first text bs before now' end w same fits = record {
  length_is = w.place ∙ zero-add (length bs) ∙ ap length same;
  after = w.after ∙ ap (λ (k : ℕ). bs ++ drop k before) (zero-add (length bs)) ∙ ap (λ (t : List ℕ). over t before) same;
  fits = fits;
}

module _ (text answer front now' : List ℕ) (count : ℕ) where
  pub answered : 49152 ≤ length answer → front ≡ take 49152 answer → Filled text front count now' → Answered text answer (Ok count) (now' ++ drop 49152 answer)
  answered long same f =
      let n = length text in
      let low : n ≤ length (take 49152 answer) = let e = f.length_is in let c = f.fits in let l : length (take 49152 answer) ≡ 49152 = length-take-le 49152 answer long in omega arith in
      let rest : drop n (take 49152 answer) ++ drop 49152 answer ≡ drop n answer = sym (drop-append-le n (take 49152 answer) (drop 49152 answer) low) ∙ ap (drop n) (take-append-drop 49152 answer) in
      record {
        small = λ short. absurd (omega arith);
        room = λ h. (
          ap Ok f.length_is,
          ap (λ (l : List ℕ). l ++ drop 49152 answer) (f.after ∙ ap (over text) same) ∙ append_assoc text (drop n (take 49152 answer)) (drop 49152 answer) ∙ ap (λ (l : List ℕ). text ++ l) rest,
        );
      }
