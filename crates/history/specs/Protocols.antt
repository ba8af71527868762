-- Histories under the protocol rule, over any two records: the sum over what stands by the rule's own formulas.
-- Assumes nothing.
use Rattle.std.specs.Prelude.{◌≡◌, ℕ, List, [], ◌∷◌, ℤ, pos, ◌+ℤ◌}
use Rattle.formulas.specs.declared.factors.Factors.{Factors}
use Rattle.prices.specs.Entries.{Entry}
use Rattle.exposure.specs.Protocol.{protocol_worth}
use Rattle.rights.specs.declared.row.Row.{Row}
use Rattle.history.specs.Events.{Event, submitted, withdrew, batched, limited}
use Rattle.history.specs.Histories.{grains_of, standing}
use Rattle.history.specs.Views.{Opening}

-- each submission was made under the protocol rule, with this day-ahead record, this real-time record and these factors
abbrev pub UnderProtocol : (ℕ → Entry) → (ℕ → Entry) → Factors → List Event → Type 0
UnderProtocol ahead real f [] = Unit {0}
UnderProtocol ahead real f (submitted s m r ∷ es) = (m ≡ protocol_worth ahead real f) × UnderProtocol ahead real f es
UnderProtocol ahead real f (withdrew n r ∷ es) = UnderProtocol ahead real f es
UnderProtocol ahead real f (batched c r ∷ es) = UnderProtocol ahead real f es
UnderProtocol ahead real f (limited l r ∷ es) = UnderProtocol ahead real f es

-- the formula of each row's kind at the row's cover, and all of them added up
abbrev pub protocol_sum : (ℕ → Entry) → (ℕ → Entry) → Factors → List Row → ℤ
protocol_sum ahead real f [] = pos 0
protocol_sum ahead real f (r ∷ rs) =
    grains_of (protocol_worth ahead real f r.submission r.cover) +ℤ protocol_sum ahead real f rs

-- where a history is under the protocol rule, x is the sum of its formulas over what stands
abbrev pub ByFormulas : Opening → List Event → ℤ → Type 0
ByFormulas o es x =
    (ahead real : ℕ → Entry) (f : Factors) → UnderProtocol ahead real f es → x ≡ protocol_sum ahead real f (standing o es)
