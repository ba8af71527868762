use Rattle.std.proofs.Common.{rules, tests, ◌∙◌}
use Rattle.std.proofs.lemmas.Iterator.{YieldsList-from_slice}
use Rattle.std.proofs.lemmas.Iterator.Search.{find_from_yields_List}
use Rattle.rights.specs.Rights.{same_path}
use Rattle.rights.proofs.held.right_on.Goals as goal

pub returns : goal.returns
returns c =
    let p = c.args.path in
    let rights = c.args.rights.now in
    c.copied.ensures ∙ find_from_yields_List (λ r. same_path r.path p) _ _ c.find.result c.find.ensures.ran (YieldsList-from_slice rights (cc)) (λ x b q k. search (rules, tests))
