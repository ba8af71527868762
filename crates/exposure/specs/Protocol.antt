-- The protocol rule: the figures that each kind needs, in order, and its formula over them. Assumes nothing.
use Rattle.std.specs.Prelude.{ℕ, cond, ℤ, Ok, Err, Result, nat_lt}
use Rattle.market.specs.declared.curve.Curve.{Curve}
use Rattle.market.specs.declared.kind.Kind.{Kind}
use Rattle.market.specs.declared.kind.Kind.TheVariants.{EnergyBid, EnergyOnlyOffer, ThreePartOffer, PointToPoint}
use Rattle.market.specs.declared.submission.Submission.{Submission}
use Rattle.market.specs.Reading.{steps_of, last_of, quantity_of}
use Rattle.formulas.specs.declared.factors.Factors.{Factors}
use Rattle.formulas.specs.Kinds.{energy_bid, energy_only_offer, three_part_offer, path_step}
use Rattle.prices.specs.Differences.{minus, floored}
use Rattle.prices.specs.Entries.{Entry}
use Rattle.exposure.specs.declared.fault.RuleFault.{RuleFault}
use Rattle.exposure.specs.declared.fault.RuleFault.TheVariants.{CoverAboveQuantity}
use Rattle.exposure.specs.Figures.{figure_at, lettered_at}

-- the first fault decides
abbrev pub then : Result ℤ RuleFault → (ℤ → Result ℤ RuleFault) → Result ℤ RuleFault
then (Ok x) f = f x
then (Err e) f = Err e

-- an energy bid: d (letter 100) of day-ahead
unfoldable pub bid_worth : (ℕ → Entry) → Factors → Curve → ℕ → ℕ → Result ℤ RuleFault
bid_worth ahead f c point h = then (lettered_at (ahead point) 100 point h) (λ d. Ok (energy_bid f.e1 d (steps_of c)))

-- an energy-only offer: a and b (letters 97 and 98) of day-ahead, then s (letter 115), the 90th percentile
-- of the floor of real-time minus day-ahead
unfoldable pub offer_worth : (ℕ → Entry) → (ℕ → Entry) → Factors → Curve → ℕ → ℕ → Result ℤ RuleFault
offer_worth ahead real f c point h =
    then (lettered_at (ahead point) 97 point h) (λ a.
    then (lettered_at (ahead point) 98 point h) (λ b.
    then (figure_at (floored (minus (real point) (ahead point))) 115 90 point h) (λ s.
    Ok (energy_only_offer f.e2 f.e3 a b s (steps_of c)))))

-- a three-part offer: y and z (letters 121 and 122) of day-ahead
unfoldable pub three_part_worth : (ℕ → Entry) → Curve → ℕ → ℕ → Result ℤ RuleFault
three_part_worth ahead c point h =
    then (lettered_at (ahead point) 121 point h) (λ y.
    then (lettered_at (ahead point) 122 point h) (λ z. Ok (three_part_offer y z (steps_of c))))

-- a point-to-point bid within its cover
abbrev pub covered : ℤ → ℕ → Curve → Result ℤ RuleFault
covered w cover c = cond (nat_lt (last_of c).quantity cover) (Err CoverAboveQuantity) (Ok (path_step w cover (last_of c)))

-- w (letter 117), of the floor of the real-time path from source to sink
unfoldable pub path_worth : (ℕ → Entry) → Curve → ℕ → ℕ → ℕ → ℕ → Result ℤ RuleFault
path_worth real c source sink h cover =
    then (lettered_at (floored (minus (real source) (real sink))) 117 source h) (λ w. covered w cover c)

abbrev pub kind_worth : (ℕ → Entry) → (ℕ → Entry) → Factors → Kind → Curve → ℕ → ℕ → Result ℤ RuleFault
kind_worth ahead real f (EnergyBid point) c h cover = bid_worth ahead f c point h
kind_worth ahead real f (EnergyOnlyOffer point) c h cover = offer_worth ahead real f c point h
kind_worth ahead real f (ThreePartOffer point) c h cover = three_part_worth ahead c point h
kind_worth ahead real f (PointToPoint source sink claim) c h cover = path_worth real c source sink h cover

-- a cover above the quantity comes before everything else
abbrev pub protocol_worth : (ℕ → Entry) → (ℕ → Entry) → Factors → Submission → ℕ → Result ℤ RuleFault
protocol_worth ahead real f s cover =
    cond (nat_lt (quantity_of s) cover) (Err CoverAboveQuantity) (kind_worth ahead real f s.kind s.curve s.hour cover)
