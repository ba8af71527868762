use Rattle.std.proofs.Common.{arith}
use Rattle.formulas.proofs.FactorsMade.{factors_made, factors_refused}
use Rattle.formulas.proofs.factors.Factors.make.Goals as goal

pub returns-then-max-gt-MOST_FACTOR : goal.returns-then-max-gt-MOST_FACTOR
returns-then-max-gt-MOST_FACTOR c = factors_refused c.args.e1 c.args.e2 c.args.e3 (λ fit. let a = fit.0 in let b = fit.1 in let d = fit.2 in omega arith)

pub returns : goal.returns
returns c = factors_made c.args.e1 c.args.e2 c.args.e3 _ _ _
