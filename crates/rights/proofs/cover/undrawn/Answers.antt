use Rattle.std.proofs.Common.{rules, ◌≡◌, ◌-◌, ◌∙◌}
use Rattle.std.proofs.iter.runs.Made.{chains}
use Rattle.std.specs.List.{fold}
use Rattle.rights.specs.Covers.{draw}
use Rattle.rights.proofs.Drawing.{left_over}
use Rattle.rights.proofs.cover.undrawn.Goals as goal

pub returns : goal.returns
returns c =
    let rows = c.args.rows.now in
    let e : c.fold.result ≡ fold (λ left row. left - draw c.args.path row) c.args.tenths rows = search (rules, chains) in
    e ∙ left_over c.args.path c.args.tenths rows
