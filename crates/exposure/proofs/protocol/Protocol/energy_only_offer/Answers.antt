use Rattle.std.proofs.Common.{Ok, sym, ap, ◌∙◌}
use Rattle.std.proofs.lemmas.Result.{err_from_is_err_and}
use Rattle.prices.specs.Entries.{Entry}
use Rattle.exposure.specs.Figures.{figure_at}
use Rattle.exposure.specs.Protocol.{offer_worth}
use Rattle.exposure.proofs.Valuing.{back, stops, goes, shortfall_is}
use Rattle.exposure.proofs.protocol.Protocol.energy_only_offer.Goals as goal

pub returns-in_err-a : goal.returns-in_err-a
unfolding offer_worth
returns-in_err-a g c =
    let p = err_from_is_err_and c.from_residual.result c.from_residual.ensures.1 in
    rw (p.1, p.2, sym c.hour-hour.ensures) (stops _ _ _ c.in_err-a.ensures)

pub returns-in_err-b : goal.returns-in_err-b
unfolding offer_worth
returns-in_err-b g c =
    let p = err_from_is_err_and c.from_residual-in_err-b.result c.from_residual-in_err-b.ensures.1 in
    rw (p.1, p.2, sym c.hour-hour.ensures) (goes c.in_ok-a.a.cents _ _ _ c.in_ok-a.ensures (stops _ _ _ c.in_err-b.ensures))

pub returns-in_err-s : goal.returns-in_err-s
unfolding offer_worth
returns-in_err-s g c =
    let p = err_from_is_err_and c.from_residual-in_err-s.result c.from_residual-in_err-s.ensures.1 in
    let same = shortfall_is g.T.Record.meaning g.D.Record.meaning c.new-floor.result.inner c.new-spread.result c.args.self.now.real_time c.args.self.now.day_ahead c.new-floor.ensures c.new-spread.ensures.first c.new-spread.ensures.second c.args.point in
    rw (p.1, p.2, sym c.hour-hour.ensures)
    (goes c.in_ok-a.a.cents _ _ _ c.in_ok-a.ensures
    (goes c.in_ok-b.b.cents _ _ _ c.in_ok-b.ensures (stops _ _ _ (c.in_err-s.ensures ∙ ap (λ (e : Entry). figure_at e 115 90 c.args.point c.hour-hour.result) same))))

pub returns : goal.returns
unfolding offer_worth
returns g c =
    let same = shortfall_is g.T.Record.meaning g.D.Record.meaning c.new-floor.result.inner c.new-spread.result c.args.self.now.real_time c.args.self.now.day_ahead c.new-floor.ensures c.new-spread.ensures.first c.new-spread.ensures.second c.args.point in
    rw (sym c.hour-hour.ensures, sym c.curve.ensures)
    (goes c.in_ok-a.a.cents _ _ _ c.in_ok-a.ensures
    (goes c.in_ok-b.b.cents _ _ _ c.in_ok-b.ensures
    (goes c.in_ok-s.s.cents _ _ _ (c.in_ok-s.ensures ∙ ap (λ (e : Entry). figure_at e 115 90 c.args.point c.hour-hour.result) same)
    (ap Ok (back c.energy_only_offer.result c.energy_only_offer.ensures.size ∙ c.energy_only_offer.ensures.value)))))
