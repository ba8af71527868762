use Rattle.prices.proofs.Bounds.{answered_within}
use Rattle.prices.proofs.path.PathRecord.ask.Goals as goal

pub difference-requires : goal.difference-requires
difference-requires g c = record {
  first = answered_within _ _ _ _ (g.R.Record.ranged _ _) c.in_ok-source.ensures;
  second = answered_within _ _ _ _ (g.R.Record.ranged _ _) c.in_ok-sink.ensures;
}
