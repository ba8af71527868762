use Rattle.prices.proofs.Bounds.{answered_within}
use Rattle.prices.proofs.spread.SpreadRecord.ask.Goals as goal

pub difference-requires : goal.difference-requires
difference-requires g c = record {
  first = answered_within _ _ _ _ (g.A.Record.ranged _ _) c.in_ok-first.ensures;
  second = answered_within _ _ _ _ (g.B.Record.ranged _ _) c.in_ok-second.ensures;
}
