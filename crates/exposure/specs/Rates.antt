-- The rate rule. Assumes nothing.
use Rattle.std.specs.Prelude.{◌≡◌, ℕ, ◌-◌, Bool, true, false, cond, List, ℤ, pos, ◌*ℤ◌, Ok, Err, Result, nat_lt, slice_index_or, refl}
use Rattle.market.specs.declared.kind.Kind.{Kind}
use Rattle.market.specs.declared.kind.Kind.TheVariants.{EnergyBid, EnergyOnlyOffer, ThreePartOffer, PointToPoint}
use Rattle.market.specs.declared.refusal.Refusal.{Refusal}
use Rattle.market.specs.declared.refusal.Refusal.TheVariants.{OutOfRange}
use Rattle.market.specs.declared.submission.Submission.{Submission}
use Rattle.market.specs.Reading.{quantity_of}
use Rattle.exposure.specs.declared.fault.RuleFault.{RuleFault}
use Rattle.exposure.specs.declared.fault.RuleFault.TheVariants.{CoverAboveQuantity}
use Rattle.exposure.specs.declared.rates.Rates.{Rates}
use Rattle.exposure.specs.Ranges.{rates_fit}

abbrev pub rates_by : (ps : List ℤ) (test : Bool) → rates_fit ps ≡ test → Result Rates Refusal
rates_by ps true e = Ok (record { prices = ps; fit = e })
rates_by ps false e = Err OutOfRange

-- the rates of exactly these prices, where each is in range
unfoldable pub rates_of : List ℤ → Result Rates Refusal
rates_of ps = rates_by ps (rates_fit ps) refl

-- the rate of a kind
abbrev pub rate_for : List ℤ → Kind → ℤ
rate_for ps (EnergyBid p) = slice_index_or ps 0 (pos 0)
rate_for ps (EnergyOnlyOffer p) = slice_index_or ps 1 (pos 0)
rate_for ps (ThreePartOffer p) = slice_index_or ps 2 (pos 0)
rate_for ps (PointToPoint source sink claim) = slice_index_or ps 3 (pos 0)

-- a hundred times the rate times the tenths
abbrev pub in_grains : ℤ → ℕ → ℤ
in_grains rate tenths = (pos 100 *ℤ rate) *ℤ pos tenths

-- what is not covered counts; a cover above the quantity is a fault
abbrev pub rated : ℤ → ℕ → ℕ → Result ℤ RuleFault
rated rate quantity cover = cond (nat_lt quantity cover) (Err CoverAboveQuantity) (Ok (in_grains rate (quantity - cover)))

-- the meaning of the rate rule
abbrev pub rate_worth : Rates → Submission → ℕ → Result ℤ RuleFault
rate_worth r s cover = rated (rate_for r.prices s.kind) (quantity_of s) cover
