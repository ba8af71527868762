-- Why the rate rule stays within its range: 100 · 10^6 cents · 10^5 tenths is 10^13 grains. Assumes nothing.
use Rattle.std.specs.Prelude.{◌≡◌, ℕ, ◌-◌, ◌*◌, ◌≤◌, Bool, true, false, cond, List, ℤ, pos, negsuc, ◌*ℤ◌, Ok, Err, int_le, nat_lt, slice_index_or}
use Rattle.std.proofs.Common.{arith}
use Rattle.std.proofs.lemmas.Int.{ints}
use Rattle.market.specs.declared.kind.Kind.{Kind}
use Rattle.market.specs.declared.kind.Kind.TheVariants.{EnergyBid, EnergyOnlyOffer, ThreePartOffer, PointToPoint}
use Rattle.market.specs.declared.submission.Submission.{Submission}
use Rattle.market.specs.Facts.{left_of, right_of}
use Rattle.market.specs.Reading.{quantity_of}
use Rattle.market.specs.Units.{price_fits}
use Rattle.market.proofs.Orderings.{last_fits}
use Rattle.exposure.specs.declared.fault.RuleFault.TheVariants.{CoverAboveQuantity}
use Rattle.exposure.specs.declared.rates.Rates.{Rates}
use Rattle.market.specs.Bounds.{Bounded, wider, bounded_times}
use Rattle.exposure.specs.Ranges.{rates_fit}
use Rattle.exposure.specs.Rates.{rate_for, in_grains, rate_worth}
use Rattle.exposure.specs.Worth.{Within}

price_bounded : (p : ℤ) → price_fits p ≡ true → Bounded 1000000 p
price_bounded p e =
    let l : int_le (negsuc 999999) p ≡ true = left_of _ _ e in
    let u : int_le p (pos 1000000) ≡ true = right_of (int_le (negsuc 999999) p) _ e in
    record { low = omega (arith, ints); high = omega (arith, ints) }

-- the rate of every kind is in range
pub rate_bounded : (ps : List ℤ) (k : Kind) → rates_fit ps ≡ true → Bounded 1000000 (rate_for ps k)
rate_bounded ps (EnergyBid p) e = price_bounded (slice_index_or ps 0 (pos 0)) (left_of _ _ e)
rate_bounded ps (EnergyOnlyOffer p) e = price_bounded (slice_index_or ps 1 (pos 0)) (left_of _ _ (right_of (price_fits (slice_index_or ps 0 (pos 0))) _ e))
rate_bounded ps (ThreePartOffer p) e = price_bounded (slice_index_or ps 2 (pos 0)) (left_of _ _ (right_of (price_fits (slice_index_or ps 1 (pos 0))) _ (right_of (price_fits (slice_index_or ps 0 (pos 0))) _ e)))
rate_bounded ps (PointToPoint source sink claim) e =
    price_bounded (slice_index_or ps 3 (pos 0)) (right_of (price_fits (slice_index_or ps 2 (pos 0))) _ (right_of (price_fits (slice_index_or ps 1 (pos 0))) _ (right_of (price_fits (slice_index_or ps 0 (pos 0))) _ e)))

pub grains_bounded : (rate : ℤ) (tenths : ℕ) → Bounded 1000000 rate → tenths ≤ 100000 → Bounded 10000000000000 (in_grains rate tenths)
grains_bounded rate tenths b h =
    wider (100000000 * tenths) _ _ (omega arith) (bounded_times 100000000 tenths (pos 100 *ℤ rate) (record { low = omega (arith, ints, b.low); high = omega (arith, ints, b.high) }))

by_cover : (t : Bool) (x : ℤ) → Bounded 10000000000000 x → Within (cond t (Err CoverAboveQuantity) (Ok x))
by_cover true x b = tt
by_cover false x b = wider 10000000000000 100000000000000 x (omega arith) b

pub rated_within : (r : Rates) (s : Submission) (cover : ℕ) → Within (rate_worth r s cover)
rated_within r s cover =
    let rate = rate_for r.prices s.kind in
    let most = (last_fits s.curve).most in
    by_cover (nat_lt (quantity_of s) cover) (in_grains rate (quantity_of s - cover)) (grains_bounded rate (quantity_of s - cover) (rate_bounded r.prices s.kind r.fit) (omega (arith, most)))
