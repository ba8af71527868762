-- Each way out of the function is one of the tests of the definition.
use Rattle.std.proofs.Common.{arith, rules}
use Rattle.dayformat.proofs.Heading.{calls_inside, too_long, unopened, too_many, unvalued, cut_rights, has_header}
use Rattle.dayformat.proofs.headers.lend_header.Goals as goal

pub returns-then-file-gt-MOST_BYTES-clause-value : goal.returns-then-file-gt-MOST_BYTES-clause-value
returns-then-file-gt-MOST_BYTES-clause-value c = too_long c.args.file.now (omega arith)

pub returns-in_err-limit-clause-value : goal.returns-in_err-limit-clause-value
returns-in_err-limit-clause-value c = rw c.from_residual.ensures (unopened c.args.file.now c.in_err-limit.ensures)

pub returns-then-count-gt-MOST_RIGHTS-clause-value : goal.returns-then-count-gt-MOST_RIGHTS-clause-value
returns-then-count-gt-MOST_RIGHTS-clause-value c = too_many c.args.file.now _ _ _ c.in_ok-limit.ensures (omega arith)

pub returns-in_err-rights-clause-value : goal.returns-in_err-rights-clause-value
returns-in_err-rights-clause-value c =
    rw c.from_residual-in_err-rights.ensures (cut_rights c.args.file.now _ _ _ c.in_ok-limit.ensures (omega arith) (omega arith) c.in_err-rights.ensures.cases)

pub returns-in_err-valuation-clause-value : goal.returns-in_err-valuation-clause-value
returns-in_err-valuation-clause-value c =
    rw c.from_residual-in_err-valuation.ensures (unvalued c.args.file.now _ _ _ c.in_ok-limit.ensures (omega arith) (omega arith) (search rules))

pub returns-clause-value : goal.returns-clause-value
returns-clause-value c =
    has_header c.args.file.now _ _ _ c.in_ok-limit.ensures (omega arith) (omega arith) c.in_ok-rights.rights.now c.in_ok-rights.rest.now c.in_ok-valuation.calls.now _ _ _ (search rules) c.in_ok-valuation.ensures (search rules) (search rules)

pub returns-clause-inside : goal.returns-clause-inside
returns-clause-inside c = calls_inside c.args.file.now _ _ _ c.in_ok-limit.ensures c.in_ok-rights.rest.now c.in_ok-valuation.calls.now _ (search rules) c.in_ok-valuation.ensures
