-- The rules of a submission's figures and kind. Assumes nothing.
use Rattle.std.specs.Prelude.{ℕ, Bool, true, false, cond, not, ◌&&◌, Some, None, Option, ◌==◌, nat_le}
use Rattle.market.specs.declared.step.Side.{Side}
use Rattle.market.specs.declared.step.Side.TheVariants.{Bid, Offer}
use Rattle.market.specs.declared.kind.Kind.{Kind}
use Rattle.market.specs.declared.kind.Kind.TheVariants.{EnergyBid, EnergyOnlyOffer, ThreePartOffer, PointToPoint}
use Rattle.market.specs.declared.kind.Figures.{Figures}
use Rattle.market.specs.Units.{hour_fits, qse_fits}

-- a number that is not 0, a QSE and an hour
abbrev pub named : ℕ → ℕ → ℕ → Bool
named number qse hour = nat_le 1 number && (qse_fits qse && hour_fits hour)

-- one point, and neither a sink nor a claim
abbrev pub alone : Figures → Bool
alone f = f.sink == 0 && f.claim == 0

-- the kind that the figures name, if any
abbrev pub kind_of : Figures → Option Kind
kind_of f =
    cond (f.kind == 1 && alone f) (Some (EnergyBid f.source))
    (cond (f.kind == 2 && alone f) (Some (EnergyOnlyOffer f.source))
    (cond (f.kind == 3 && alone f) (Some (ThreePartOffer f.source))
    (cond (f.kind == 4) (Some (PointToPoint f.source f.sink f.claim)) None)))

-- a point-to-point bid has a source and a sink that differ, a claim of 0 or 1, and one step
abbrev pub suits : Kind → ℕ → Bool
suits (EnergyBid p) count = true
suits (EnergyOnlyOffer p) count = true
suits (ThreePartOffer p) count = true
suits (PointToPoint source sink claim) count = not (source == sink) && (nat_le claim 1 && count == 1)

-- bids buy and offers sell
abbrev pub side_of : Kind → Side
side_of (EnergyBid p) = Bid
side_of (EnergyOnlyOffer p) = Offer
side_of (ThreePartOffer p) = Offer
side_of (PointToPoint source sink claim) = Bid

abbrev pub same_side : Side → Side → Bool
same_side Bid Bid = true
same_side Bid Offer = false
same_side Offer Bid = false
same_side Offer Offer = true

-- the curve has the side of the kind
abbrev pub faces : Kind → Side → Bool
faces k side = same_side (side_of k) side
