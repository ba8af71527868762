-- The ratios of the days so far stand in front.
use Rattle.std.proofs.Common.{◌≡◌, map, length, take}
use Rattle.factors.proofs.factor.gathered.Given as goal

abbrev pub invariant-loop-d : goal.invariant-loop-d
invariant-loop-d g l = (length l.ratios ≡ 30) × (take l.d l.ratios ≡ map g.D.Rated.rating (take l.d l.days))
