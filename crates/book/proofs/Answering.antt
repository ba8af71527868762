-- How the tests of submit and withdraw come to the answer.
use Rattle.std.proofs.Common.{◌≡◌, ℕ, Bool, true, false, cond, leb, length, ℤ, ◌+ℤ◌, neg_ℤ, Some, None, Ok, Err, Option, Result, sym, ap, ◌∙◌}
use Rattle.market.specs.declared.submission.Submission.{Submission}
use Rattle.exposure.specs.declared.fault.RuleFault.{RuleFault}
use Rattle.history.specs.declared.accepted.Accepted.{Accepted}
use Rattle.history.specs.declared.refusal.Refusal.{Refusal}
use Rattle.history.specs.declared.refusal.Refusal.TheVariants as refusal
use Rattle.rights.specs.declared.row.Row.{Row}
use Rattle.history.specs.Answers.{beyond, over, left_of_limit, valued, roomy, unless_standing, submit_answer, released, withdraw_answer}
use Rattle.rights.specs.Covers.{cover_of}
use Rattle.history.specs.Rows.{find}
use Rattle.history.specs.Sums.{sum}
use Rattle.history.specs.Views.{Meaning, View}

module _ (v : View) (s : Submission) (m : Meaning) where
  pub stood : (r : Row) → find s.number v.rows ≡ Some r → Err refusal.NumberStands ≡ submit_answer v s m
  stood r e = sym (ap (λ (o : Option Row). unless_standing o (roomy v s m) (Err refusal.NumberStands)) e)

  fresh : find s.number v.rows ≡ None → submit_answer v s m ≡ roomy v s m
  fresh e = ap (λ (o : Option Row). unless_standing o (roomy v s m) (Err refusal.NumberStands)) e

  pub weighed : (c : ℕ) (w : Result ℤ RuleFault) → find s.number v.rows ≡ None → leb 500 (length v.rows) ≡ false →
      c ≡ cover_of v.rights v.rows s → w ≡ m s c → submit_answer v s m ≡ valued v c w
  weighed c w e l k val =
      fresh e ∙ ap (λ (b : Bool). cond b (Err refusal.RowsFull) (valued v (cover_of v.rights v.rows s) (m s (cover_of v.rights v.rows s)))) l
      ∙ ap (λ (y : ℕ). valued v y (m s y)) (sym k) ∙ ap (valued v c) (sym val)

module _ (v : View) (c : ℕ) (x : ℤ) where
  abbrev within_range : Result Accepted Refusal
  within_range = cond (over v.limit (sum v.rows) x) (Err (refusal.SubmitOver x (left_of_limit v))) (Ok (record { exposure = x; cover = c }))

  pub valued_beyond : beyond (sum v.rows +ℤ x) ≡ true → valued v c (Ok x) ≡ Err refusal.TotalOutOfRange
  valued_beyond b = ap (λ (t : Bool). cond t (Err refusal.TotalOutOfRange) within_range) b

  pub valued_over : beyond (sum v.rows +ℤ x) ≡ false → over v.limit (sum v.rows) x ≡ true → valued v c (Ok x) ≡ Err (refusal.SubmitOver x (left_of_limit v))
  valued_over b o = ap (λ (t : Bool). cond t (Err refusal.TotalOutOfRange) within_range) b ∙ ap (λ (t : Bool). cond t (Err (refusal.SubmitOver x (left_of_limit v))) (Ok (record { exposure = x; cover = c }))) o

  pub valued_under : beyond (sum v.rows +ℤ x) ≡ false → over v.limit (sum v.rows) x ≡ false → valued v c (Ok x) ≡ Ok (record { exposure = x; cover = c })
  valued_under b o = ap (λ (t : Bool). cond t (Err refusal.TotalOutOfRange) within_range) b ∙ ap (λ (t : Bool). cond t (Err (refusal.SubmitOver x (left_of_limit v))) (Ok (record { exposure = x; cover = c }))) o

module _ (v : View) (n : ℕ) (q : Row) (f : find n v.rows ≡ Some q) where
  abbrev by_limit : Bool → Result ℤ Refusal
  by_limit t = cond t (Err (refusal.WithdrawOver q.exposure (left_of_limit v))) (Ok q.exposure)

  pub released_over : over v.limit (sum v.rows) (neg_ℤ q.exposure) ≡ true → withdraw_answer v n ≡ Err (refusal.WithdrawOver q.exposure (left_of_limit v))
  released_over o = ap (released v) f ∙ ap by_limit o

  pub released_under : over v.limit (sum v.rows) (neg_ℤ q.exposure) ≡ false → withdraw_answer v n ≡ Ok q.exposure
  released_under o = ap (released v) f ∙ ap by_limit o
