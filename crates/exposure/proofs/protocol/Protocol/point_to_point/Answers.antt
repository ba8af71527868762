use Rattle.std.proofs.Common.{sym, ap, ◌∙◌}
use Rattle.std.proofs.lemmas.Result.{err_from_is_err_and}
use Rattle.prices.specs.Entries.{Entry}
use Rattle.exposure.specs.Figures.{lettered_at}
use Rattle.exposure.specs.Protocol.{path_worth}
use Rattle.exposure.proofs.Valuing.{stops, goes, path_is, covered_or}
use Rattle.exposure.proofs.protocol.Protocol.point_to_point.Goals as goal

pub returns-in_err-w : goal.returns-in_err-w
unfolding path_worth
returns-in_err-w g c =
    let p = err_from_is_err_and c.from_residual.result c.from_residual.ensures.1 in
    let same = path_is g.T.Record.meaning c.new-floor.result.inner c.new-path.result c.args.self.now.real_time c.args.source c.args.sink c.new-floor.ensures c.new-path.ensures.inner c.new-path.ensures.source c.new-path.ensures.sink in
    rw (p.1, p.2, sym c.hour.ensures) (stops _ _ _ (c.in_err-w.ensures ∙ ap (λ (e : Entry). lettered_at e 117 c.args.source c.hour.result) same))

pub returns : goal.returns
unfolding path_worth
returns g c =
    let same = path_is g.T.Record.meaning c.new-floor.result.inner c.new-path.result c.args.self.now.real_time c.args.source c.args.sink c.new-floor.ensures c.new-path.ensures.inner c.new-path.ensures.source c.new-path.ensures.sink in
    let valued = c.ok_or.ensures.value ∙ covered_or c.in_ok-w.w.cents c.args.cover c.curve.result c.point_to_point.result c.point_to_point.ensures.value in
    rw (sym c.hour.ensures, sym c.curve.ensures)
    (goes c.in_ok-w.w.cents _ _ _ (c.in_ok-w.ensures ∙ ap (λ (e : Entry). lettered_at e 117 c.args.source c.hour.result) same) valued)
