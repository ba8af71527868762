use Rattle.std.proofs.Common.{sym}
use Rattle.exposure.proofs.RatesMade.{rates_made, rates_refused}
use Rattle.exposure.proofs.rates.Rates.make.Goals as goal

pub returns-then-not-all_fit : goal.returns-then-not-all_fit
returns-then-not-all_fit c = rates_refused c.args.prices (sym c.if-not-all_fit.ensures)

pub returns : goal.returns
returns c = rates_made c.args.prices _
