use Rattle.std.proofs.Common.{rules, ◌≡◌, ◌↔◌, true, get_or, pos, arith}
use Rattle.std.proofs.iter.runs.Made.{chains}
use Rattle.std.specs.Bool.{IsTrue}
use Rattle.std.specs.List.{EachIndex}
use Rattle.market.specs.Units.{price_fits}
use Rattle.exposure.proofs.RatesMade.{fit_by}
use Rattle.exposure.proofs.rating.all_fit.Goals as goal

pub returns : goal.returns
returns c =
    let ps = c.args.prices in
    let e : IsTrue c.all.result ↔ EachIndex ps (λ k. price_fits (get_or ps k (pos 0)) ≡ true) = search (rules, chains) in
    fit_by ps (omega arith) c.all.result e
