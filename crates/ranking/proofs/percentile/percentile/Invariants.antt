-- The counted days give the counts so far, and no earlier day's element fits.
use Rattle.std.proofs.Common.{◌≡◌, ℕ, ◌<◌, ◌≤◌, take, Some}
use Rattle.ranking.specs.Counts.{tally}
use Rattle.ranking.specs.Percentile.{on_day}
use Rattle.ranking.proofs.Candidates.{Fits, under}
use Rattle.ranking.proofs.percentile.percentile.Given as goal

abbrev pub invariant-loop-counted : goal.invariant-loop-counted
invariant-loop-counted g l =
    let le = g.E.Ordered.upto in
    (l.reached ≡ tally (λ z. le z l.candidate) (take l.counted-index l.days))
    × (l.before ≡ tally (under le l.candidate) (take l.counted-index l.days))
    × (l.reached ≤ l.counted-index)
    × (l.before ≤ l.counted-index)

abbrev pub invariant-loop-day : goal.invariant-loop-day
invariant-loop-day g l =
    (e : ℕ) (y : g.row.E.Denot) → e < l.day-index → on_day l.days e ≡ Some y → Fits g.E.Ordered.upto l.days l.k y → ⊥
