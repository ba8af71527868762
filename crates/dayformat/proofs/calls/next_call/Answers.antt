-- Each arm of the pattern reads what the definition says of its letter.
use Rattle.std.proofs.Common.{refl, lit≤, rules}
use Rattle.std.proofs.lemmas.List.{take_rest, drop-drop}
use Rattle.dayformat.proofs.Opening.{opens, opens_steps, cut_steps, no_call}
use Rattle.dayformat.proofs.calls.next_call.Goals as goal

pub returns-in_err-steps-in-83 : goal.returns-in_err-steps-in-83
returns-in_err-steps-in-83 c = rw c.from_residual.ensures (record { reads = cut_steps c.args.bytes.now _ (search rules) (take_rest c.args.bytes.now 14) c.in_err-steps-in-83.ensures.cases })

-- what follows is shown of any slice of the bytes, so that an edit is refused for where its slice begins, not for its form
pub returns-in_ok-steps-in-83 : goal.returns-in_ok-steps-in-83
returns-in_ok-steps-in-83 c =
    let cuts = c.in_ok-steps-in-83.ensures.cases in
    record {
      reads = opens_steps c.args.bytes.now _ c.in_ok-steps-in-83.steps.now _ _ _ (search rules) (search rules) (take_rest c.args.bytes.now 14) (cuts.1, search (rules, take_rest, drop-drop), cuts.0) (search rules) (search rules);
    }

pub returns-in-76 : goal.returns-in-76
returns-in-76 c = record { reads = opens c.args.bytes.now 76 9 _ _ refl (search rules) (lit≤ tt) (search rules) (search rules) }

pub returns-in-87 : goal.returns-in-87
returns-in-87 c = record { reads = opens c.args.bytes.now 87 5 _ _ refl (search rules) (lit≤ tt) (search rules) (search rules) }

pub returns-in-79 : goal.returns-in-79
returns-in-79 c = record { reads = opens c.args.bytes.now 79 1 _ _ refl (search rules) (lit≤ tt) (search rules) (search rules) }

pub returns-in-75 : goal.returns-in-75
returns-in-75 c = record { reads = opens c.args.bytes.now 75 1 _ _ refl (search rules) (lit≤ tt) (search rules) (search rules) }

pub returns-in-67 : goal.returns-in-67
returns-in-67 c = record { reads = opens c.args.bytes.now 67 1 _ _ refl (search rules) (lit≤ tt) (search rules) (search rules) }

pub returns-in_default : goal.returns-in_default
returns-in_default c = record { reads = no_call c.args.bytes.now (search rules) (search rules) (search rules) (search rules) (search rules) (search rules) }
