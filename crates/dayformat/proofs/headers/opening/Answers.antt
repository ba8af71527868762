-- No opening where a test of the pattern fails.
use Rattle.std.proofs.Common.{rules}
use Rattle.std.proofs.lemmas.List.{take_rest}
use Rattle.dayformat.proofs.Heading.{no_opening, opens_with}
use Rattle.dayformat.proofs.headers.opening.Goals as goal

pub returns-in_default : goal.returns-in_default
returns-in_default c = no_opening c.args.file.now (search rules)

pub returns : goal.returns
returns c =
    opens_with c.args.file.now _ c.in_ok-limit.limit.now c.in_ok-limit.rest.now c.in_ok-count.count.now c.in_ok-count.rest.now _ _ (take_rest c.args.file.now 5)
    (search rules) (search rules) (search rules) (search rules) (search rules) (search rules)
