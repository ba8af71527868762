use Rattle.std.proofs.Common.{sym}
use Rattle.market.proofs.Making.{curve_made, curve_refused}
use Rattle.market.proofs.curve.Curve.make.Goals as goal

pub returns-then-not-keeps_rules : goal.returns-then-not-keeps_rules
returns-then-not-keeps_rules c = curve_refused c.args.side c.args.steps.now (sym c.if-not-keeps_rules.ensures)

pub returns : goal.returns
returns c = curve_made c.args.side c.args.steps.now _ _ c.packed.ensures _ (sym c.if-not-keeps_rules.ensures)
