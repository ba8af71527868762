-- What an acceptance tells: no test refused the call.
use Rattle.std.proofs.Common.{◌≡◌, ℕ, Bool, true, false, cond, leb, List, length, ℤ, ◌+ℤ◌, neg_ℤ, Some, None, Ok, Err, Option, Result, sym, refl, ap, ◌∙◌, arith}
use Rattle.market.specs.declared.submission.Submission.{Submission}
use Rattle.exposure.specs.declared.fault.RuleFault.{RuleFault}
use Rattle.rights.specs.declared.row.Row.{Row}
use Rattle.rights.specs.Covers.{cover_of}
use Rattle.history.specs.declared.accepted.Accepted.{Accepted}
use Rattle.history.specs.declared.refusal.Refusal.{Refusal}
use Rattle.history.specs.declared.refusal.Refusal.TheVariants as refusal
use Rattle.history.specs.Answers.{beyond, over, left_of_limit, valued, unless_standing, submit_answer, released, withdraw_answer, if_plain}
use Rattle.history.specs.Rows.{find}
use Rattle.history.specs.Sums.{sum}
use Rattle.history.specs.Views.{Meaning, View}

refused : {T X : Type 0} (a : T) (f : Refusal) → ◌≡◌ {A = Result T Refusal} (Ok a) (Err f) → X
refused a f h = let z : ◌≡◌ {A = ℕ} 0 1 = cc in absurd (omega arith)

-- an accepted submission
pub record Took (v : View) (s : Submission) (m : Meaning) (a : Accepted) : Type 0 where
  pub fresh : find s.number v.rows ≡ None
  pub worth : m s (cover_of v.rights v.rows s) ≡ Ok a.exposure
  pub cover : a.cover ≡ cover_of v.rights v.rows s
  pub fits : over v.limit (sum v.rows) a.exposure ≡ false

module _ (v : View) (s : Submission) (m : Meaning) (a : Accepted) where
  took_under : (x : ℤ) → find s.number v.rows ≡ None → m s (cover_of v.rights v.rows s) ≡ Ok x → (b : Bool) → over v.limit (sum v.rows) x ≡ b → (f : Refusal) →
      ◌≡◌ {A = Result Accepted Refusal} (Ok a) (cond b (Err f) (Ok (record { exposure = x; cover = cover_of v.rights v.rows s }))) → Took v s m a
  took_under x p q true e f h = refused a f h
  took_under x p q false e f h =
      let k : a ≡ record { exposure = x; cover = cover_of v.rights v.rows s } = cc in
      let y : a.exposure ≡ x = ap (λ (w : Accepted). w.exposure) k in
      record { fresh = p; worth = q ∙ ap Ok (sym y); cover = ap (λ (w : Accepted). w.cover) k; fits = rw y e }

  took_within : (x : ℤ) → find s.number v.rows ≡ None → m s (cover_of v.rights v.rows s) ≡ Ok x → (t : Bool) →
      Ok a ≡ cond t (Err refusal.TotalOutOfRange) (cond (over v.limit (sum v.rows) x) (Err (refusal.SubmitOver x (left_of_limit v))) (Ok (record { exposure = x; cover = cover_of v.rights v.rows s }))) → Took v s m a
  took_within x p q true h = refused a refusal.TotalOutOfRange h
  took_within x p q false h = took_under x p q (over v.limit (sum v.rows) x) refl (refusal.SubmitOver x (left_of_limit v)) h

  took_by : (f : Option Row) → find s.number v.rows ≡ f → (b : Bool) (w : Result ℤ RuleFault) → m s (cover_of v.rights v.rows s) ≡ w →
      Ok a ≡ unless_standing f (cond b (Err refusal.RowsFull) (valued v (cover_of v.rights v.rows s) w)) (Err refusal.NumberStands) → Took v s m a
  took_by (Some r) p b w q h = refused a refusal.NumberStands h
  took_by None p true w q h = refused a refusal.RowsFull h
  took_by None p false (Err f) q h = refused a (refusal.Rule f) h
  took_by None p false (Ok x) q h = took_within x p q (beyond (sum v.rows +ℤ x)) h

  pub took : Ok a ≡ submit_answer v s m → Took v s m a
  took h = took_by (find s.number v.rows) refl (leb 500 (length v.rows)) (m s (cover_of v.rights v.rows s)) refl h

-- an accepted withdrawal
pub record Gave (v : View) (n : ℕ) : Type 0 where
  pub row : Row
  pub found : find n v.rows ≡ Some row
  pub fits : over v.limit (sum v.rows) (neg_ℤ row.exposure) ≡ false

module _ (v : View) (n : ℕ) (x : ℤ) where
  gave_under : (r : Row) → find n v.rows ≡ Some r → (b : Bool) → over v.limit (sum v.rows) (neg_ℤ r.exposure) ≡ b → (f : Refusal) (y : ℤ) →
      ◌≡◌ {A = Result ℤ Refusal} (Ok x) (cond b (Err f) (Ok y)) → Gave v n
  gave_under r p true e f y h = refused x f h
  gave_under r p false e f y h = record { row = r; found = p; fits = e }

  gave_by : (o : Option Row) → find n v.rows ≡ o → Ok x ≡ released v o → Gave v n
  gave_by None p h = refused x refusal.NotStanding h
  gave_by (Some r) p h = gave_under r p (over v.limit (sum v.rows) (neg_ℤ r.exposure)) refl (refusal.WithdrawOver r.exposure (left_of_limit v)) r.exposure h

  pub gave : Ok x ≡ withdraw_answer v n → Gave v n
  gave h = gave_by (find n v.rows) refl h

-- a call that an open batch refuses was accepted by a plain book, and one that a plain book refuses by an open batch
pub was_plain : (o : Option (List Row)) (q : Result (Unit {0}) Refusal) (u : Unit {0}) → ◌≡◌ {A = Result (Unit {0}) Refusal} (Ok u) (if_plain o q (Err refusal.BatchOpen)) → o ≡ None
was_plain None q u h = refl
was_plain (Some rs) q u h = refused u refusal.BatchOpen h

pub was_open : {X : Type 0} (u : Unit {0}) → ◌≡◌ {A = Result (Unit {0}) Refusal} (Ok u) (if_plain None (Err refusal.NoBatch) (Ok tt)) → X
was_open u h = refused u refusal.NoBatch h
