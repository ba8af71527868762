-- Why the protocol rule stays within 10^14 grains: its figures are in range, and so are its formulas. Assumes nothing.
use Rattle.std.specs.Prelude.{◌≡◌, ℕ, ◌≤◌, Bool, true, false, cond, ℤ, Ok, Err, Result, nat_lt, refl}
use Rattle.std.proofs.lemmas.Bool.{ltb-false}
use Rattle.std.proofs.Common.{lit≤}
use Rattle.market.specs.declared.curve.Curve.{Curve}
use Rattle.market.specs.declared.kind.Kind.{Kind}
use Rattle.market.specs.declared.kind.Kind.TheVariants.{EnergyBid, EnergyOnlyOffer, ThreePartOffer, PointToPoint}
use Rattle.market.specs.declared.submission.Submission.{Submission}
use Rattle.market.specs.Bounds.{Bounded, wider}
use Rattle.market.specs.Orders.{Orderly}
use Rattle.market.specs.Reading.{steps_of, last_of, quantity_of}
use Rattle.market.proofs.Orderings.{last_fits, lawful_orderly}
use Rattle.formulas.specs.declared.factors.Factors.{Factors}
use Rattle.formulas.specs.Kinds.{offer_block, three_part_block, path_step}
use Rattle.formulas.specs.Within.{energy_bid_bounded, over_blocks_bounded, offer_block_bounded, three_part_block_bounded, path_step_bounded}
use Rattle.prices.specs.Differences.{minus, floored}
use Rattle.prices.specs.Entries.{Entry, Ranged}
use Rattle.prices.specs.Ranges.{minus_ranged, floored_ranged}
use Rattle.exposure.specs.declared.fault.RuleFault.{RuleFault}
use Rattle.exposure.specs.declared.fault.RuleFault.TheVariants.{CoverAboveQuantity}
use Rattle.exposure.specs.Figures.{figure_at}
use Rattle.exposure.specs.FigureBounds.{InRange, figure_within}
use Rattle.exposure.specs.Protocol.{then, bid_worth, offer_worth, three_part_worth, path_worth, kind_worth, protocol_worth}
use Rattle.exposure.specs.Worth.{Within}

then_within : (r : Result ℤ RuleFault) (f : ℤ → Result ℤ RuleFault) → InRange r → ((x : ℤ) → Bounded 4000000 x → Within (f x)) → Within (then r f)
then_within (Ok x) f b h = h x b
then_within (Err e) f b h = tt

orderly : (c : Curve) → Orderly 0 (steps_of c)
orderly c = lawful_orderly c.side (steps_of c) c.kept

five : (x : ℤ) → Bounded 4000000 x → Bounded 5000000 x
five x b = wider 4000000 5000000 x (lit≤ tt) b

covered_by : (w : ℤ) (cover : ℕ) (c : Curve) (t : Bool) → Bounded 4000000 w → (t ≡ false → cover ≤ (last_of c).quantity) → Within (cond t (Err CoverAboveQuantity) (Ok (path_step w cover (last_of c))))
covered_by w cover c true b h = tt
covered_by w cover c false b h = path_step_bounded w cover 0 (last_of c) b (last_fits c) (h refl)

module _ (ahead real : ℕ → Entry) (ahead_in : (p : ℕ) → Ranged (ahead p)) (real_in : (p : ℕ) → Ranged (real p)) (f : Factors) (c : Curve) (h : ℕ) where
  figured : (p letter percent : ℕ) → InRange (figure_at (ahead p) letter percent p h)
  figured p letter percent = figure_within (ahead p) (ahead_in p) letter percent p h

  difference_in : (x y : Entry) → Ranged (floored (minus x y))
  difference_in x y = floored_ranged (minus x y) (minus_ranged x y)

  bid_within : (p : ℕ) → Within (bid_worth ahead f c p h)
  unfolding bid_worth
  bid_within p = then_within _ _ (figured p 100 85) (λ d b. energy_bid_bounded f.e1 d (steps_of c) f.first b (orderly c))

  offer_within : (p : ℕ) → Within (offer_worth ahead real f c p h)
  unfolding offer_worth
  offer_within p =
      then_within _ _ (figured p 97 50) (λ a ba.
      then_within _ _ (figured p 98 45) (λ b bb.
      then_within _ _ (figure_within (floored (minus (real p) (ahead p))) (difference_in (real p) (ahead p)) 115 90 p h) (λ s bs.
      over_blocks_bounded (offer_block f.e2 f.e3 a b s) (λ q m. offer_block_bounded f.e2 f.e3 a b s q m f.second f.third (five b bb) (five s bs)) 0 (steps_of c) (lit≤ tt) (orderly c))))

  three_within : (p : ℕ) → Within (three_part_worth ahead c p h)
  unfolding three_part_worth
  three_within p =
      then_within _ _ (figured p 121 45) (λ y by.
      then_within _ _ (figured p 122 50) (λ z bz.
      over_blocks_bounded (three_part_block y z) (λ q m. three_part_block_bounded y z q m (five z bz)) 0 (steps_of c) (lit≤ tt) (orderly c)))

  path_within : (source sink cover : ℕ) → Within (path_worth real c source sink h cover)
  unfolding path_worth
  path_within source sink cover =
      then_within _ _ (figure_within (floored (minus (real source) (real sink))) (difference_in (real source) (real sink)) 117 90 source h) (λ w bw.
      covered_by w cover c (nat_lt (last_of c).quantity cover) bw (λ t. ltb-false (last_of c).quantity cover t))

  kind_within : (k : Kind) (cover : ℕ) → Within (kind_worth ahead real f k c h cover)
  kind_within (EnergyBid p) cover = bid_within p
  kind_within (EnergyOnlyOffer p) cover = offer_within p
  kind_within (ThreePartOffer p) cover = three_within p
  kind_within (PointToPoint source sink claim) cover = path_within source sink cover

first_test : (t : Bool) (r : Result ℤ RuleFault) → Within r → Within (cond t (Err CoverAboveQuantity) r)
first_test true r w = tt
first_test false r w = w

pub protocol_within : (ahead real : ℕ → Entry) → ((p : ℕ) → Ranged (ahead p)) → ((p : ℕ) → Ranged (real p)) → (f : Factors) (s : Submission) (cover : ℕ) → Within (protocol_worth ahead real f s cover)
protocol_within ahead real ahead_in real_in f s cover =
    first_test (nat_lt (quantity_of s) cover) (kind_worth ahead real f s.kind s.curve s.hour cover) (kind_within ahead real ahead_in real_in f s.curve s.hour s.kind cover)
