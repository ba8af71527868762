-- A record that means values in range answers values in range: off the calendar it answers nothing.
use Rattle.std.proofs.Common.{◌≡◌, ℕ, Bool, true, false, cond, ℤ, None, Ok, Err, Option, Result, sym, subst}
use Rattle.prices.specs.declared.fault.RecordFault.{RecordFault}
use Rattle.prices.specs.Entries.{Entry, known, unknown, on_calendar, answer, Within, Ranged}

kept_within : (test : Bool) (x : Option ℤ) → Within x → Within (cond test x None)
kept_within true x w = w
kept_within false x w = tt

abbrev WithinOk : Result (Option ℤ) RecordFault → Type 0
WithinOk (Ok x) = Within x
WithinOk (Err f) = Unit {0}

answer_within : (e : Entry) (h d : ℕ) → Ranged e → WithinOk (answer e h d)
answer_within (known v) h d w = kept_within (on_calendar h d) (v h d) (w h d)
answer_within (unknown l p) h d w = tt

pub answered_within : (e : Entry) (h d : ℕ) (x : Option ℤ) → Ranged e → Ok x ≡ answer e h d → Within x
answered_within e h d x w is = subst WithinOk (sym is) (answer_within e h d w)
