-- Which rights a submission claims, what rows draw on them, and what is free. Assumes nothing.
use Rattle.std.specs.Prelude.{ℕ, ◌+◌, ◌-◌, min, cond, ◌&&◌, List, [], ◌∷◌, ℤ, pos, Some, None, Option, ◌==◌, int_lt}
use Rattle.market.specs.declared.kind.Kind.{Kind}
use Rattle.market.specs.declared.kind.Kind.TheVariants.{EnergyBid, EnergyOnlyOffer, ThreePartOffer, PointToPoint}
use Rattle.market.specs.declared.right.PathHour.{PathHour}
use Rattle.market.specs.declared.right.Right.{Right}
use Rattle.market.specs.declared.submission.Submission.{Submission}
use Rattle.market.specs.Reading.{quantity_of, price_of}
use Rattle.rights.specs.declared.row.Row.{Row}
use Rattle.rights.specs.Rights.{same_path, tenths_of}

-- a point-to-point bid that claims, at a price above 0, draws on its path at its hour
abbrev pub claimed_by : Kind → ℕ → ℤ → Option PathHour
claimed_by (EnergyBid point) hour price = None
claimed_by (EnergyOnlyOffer point) hour price = None
claimed_by (ThreePartOffer point) hour price = None
claimed_by (PointToPoint source sink claim) hour price =
    cond (claim == 1 && int_lt (pos 0) price) (Some (record { source = source; sink = sink; hour = hour })) None

abbrev pub claimed : Submission → Option PathHour
claimed s = claimed_by s.kind s.hour (price_of s)

-- the tenths that a row draws on a path at an hour
abbrev pub draw_at : PathHour → Option PathHour → ℕ → ℕ
draw_at p None cover = 0
draw_at p (Some own) cover = cond (same_path own p) cover 0

abbrev pub draw : PathHour → Row → ℕ
draw p r = draw_at p (claimed r.submission) r.cover

abbrev pub drawn : PathHour → List Row → ℕ
drawn p [] = 0
drawn p (r ∷ rs) = draw p r + drawn p rs

-- the right's tenths less the covers of what stands
abbrev pub free_of : List Right → List Row → PathHour → ℕ
free_of rights rs p = tenths_of rights p - drawn p rs

-- the lesser of the quantity and the free tenths where rights are claimed, and else 0
abbrev pub cover_at : List Right → List Row → ℕ → Option PathHour → ℕ
cover_at rights rs quantity None = 0
cover_at rights rs quantity (Some p) = min quantity (free_of rights rs p)

abbrev pub cover_of : List Right → List Row → Submission → ℕ
cover_of rights rs s = cover_at rights rs (quantity_of s) (claimed s)
