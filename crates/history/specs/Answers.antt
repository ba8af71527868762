-- What each call answers: the first refusal that meets it in the order of tests, or an acceptance. Assumes nothing.
use Rattle.std.specs.Prelude.{ℕ, Bool, cond, ◌&&◌, ◌||◌, List, length, ℤ, pos, ◌+ℤ◌, ◌-ℤ◌, neg_ℤ, Some, None, Ok, Err, Option, Result, int_le, int_lt, nat_le}
use Rattle.market.specs.declared.submission.Submission.{Submission}
use Rattle.exposure.specs.declared.fault.RuleFault.{RuleFault}
use Rattle.history.specs.declared.accepted.Accepted.{Accepted}
use Rattle.history.specs.declared.batch.BatchCall.{BatchCall}
use Rattle.history.specs.declared.batch.BatchCall.TheVariants.{Open, Keep, Cancel}
use Rattle.history.specs.declared.refusal.Refusal.{Refusal}
use Rattle.history.specs.declared.refusal.Refusal.TheVariants as refusal
use Rattle.rights.specs.declared.row.Row.{Row}
use Rattle.rights.specs.Covers.{cover_of}
use Rattle.rights.specs.Rights.{rights_fit}
use Rattle.history.specs.Rows.{find}
use Rattle.history.specs.Sums.{sum}
use Rattle.history.specs.Views.{Meaning, View, Opening}

-- outside -10^17 to 10^17
abbrev pub beyond : ℤ → Bool
beyond z = int_lt z (neg_ℤ (pos 100000000000000000)) || int_lt (pos 100000000000000000) z

-- a change that raises the total, and past the limit
abbrev pub over : ℤ → ℤ → ℤ → Bool
over limit total change = int_lt (pos 0) change && int_lt limit (total +ℤ change)

-- what is left of the limit
abbrev pub left_of_limit : View → ℤ
left_of_limit v = v.limit -ℤ sum v.rows

-- Submit: the rule's fault, then a total out of range, then the limit.
abbrev pub valued : View → ℕ → Result ℤ RuleFault → Result Accepted Refusal
valued v cover (Err fault) = Err (refusal.Rule fault)
valued v cover (Ok x) =
    cond (beyond (sum v.rows +ℤ x)) (Err refusal.TotalOutOfRange)
    (cond (over v.limit (sum v.rows) x) (Err (refusal.SubmitOver x (left_of_limit v)))
    (Ok (record { exposure = x; cover = cover })))

-- Before that: 500 rows stand.
abbrev pub roomy : View → Submission → Meaning → Result Accepted Refusal
roomy v s m =
    cond (nat_le 500 (length v.rows)) (Err refusal.RowsFull)
    (valued v (cover_of v.rights v.rows s) (m s (cover_of v.rights v.rows s)))

-- First of all: the number stands.
abbrev pub unless_standing : {X : Type 0} → Option Row → X → X → X
unless_standing None x y = x
unless_standing (Some r) x y = y

abbrev pub submit_answer : View → Submission → Meaning → Result Accepted Refusal
submit_answer v s m = unless_standing (find s.number v.rows) (roomy v s m) (Err refusal.NumberStands)

-- Withdraw: the number does not stand, then the limit, where the total would rise.
abbrev pub released : View → Option Row → Result ℤ Refusal
released v None = Err refusal.NotStanding
released v (Some r) =
    cond (over v.limit (sum v.rows) (neg_ℤ r.exposure)) (Err (refusal.WithdrawOver r.exposure (left_of_limit v))) (Ok r.exposure)

abbrev pub withdraw_answer : View → ℕ → Result ℤ Refusal
withdraw_answer v n = released v (find n v.rows)

-- A batch: one that is open refuses another, and a plain book has none to end.
abbrev pub if_plain : {X : Type 0} → Option (List Row) → X → X → X
if_plain None x y = x
if_plain (Some rs) x y = y

abbrev pub batch_answer : View → BatchCall → Result (Unit {0}) Refusal
batch_answer v Open = if_plain v.restores (Ok tt) (Err refusal.BatchOpen)
batch_answer v Keep = if_plain v.restores (Err refusal.NoBatch) (Ok tt)
batch_answer v Cancel = if_plain v.restores (Err refusal.NoBatch) (Ok tt)

-- a limit from 0 to 10^16
abbrev pub fit_limit : ℤ → Bool
fit_limit l = int_le (pos 0) l && int_le l (pos 10000000000000000)

-- New limit: an open batch, then the range.
abbrev pub limit_answer : View → ℤ → Result (Unit {0}) Refusal
limit_answer v l = if_plain v.restores (cond (fit_limit l) (Ok tt) (Err refusal.LimitUnfit)) (Err refusal.BatchOpen)

-- Open: the limit, then the rights.
abbrev pub opening_fault : Opening → Option Refusal
opening_fault o = cond (fit_limit o.limit) (cond (rights_fit o.rights) None (Some refusal.RightsUnfit)) (Some refusal.LimitUnfit)
