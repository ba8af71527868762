-- The rights that a counter-party holds. Assumes nothing.
use Rattle.std.specs.Prelude.{ℕ, Bool, true, not, ◌&&◌, List, [], ◌∷◌, length, is_some, Some, None, Option, ◌==◌, nat_le}
use Rattle.std.specs.List.{find}
use Rattle.market.specs.declared.right.PathHour.{PathHour}
use Rattle.market.specs.declared.right.Right.{Right}
use Rattle.market.specs.Units.{hour_fits}

abbrev pub same_path : PathHour → PathHour → Bool
same_path p q = p.source == q.source && (p.sink == q.sink && p.hour == q.hour)

-- the right on a path at an hour, if one is held
abbrev pub right_on : PathHour → List Right → Option Right
right_on p rs = find (λ r. same_path r.path p) rs

-- its tenths; without a right they are 0
abbrev pub tenths_in : Option Right → ℕ
tenths_in None = 0
tenths_in (Some r) = r.tenths

abbrev pub tenths_of : List Right → PathHour → ℕ
tenths_of rs p = tenths_in (right_on p rs)

-- an hour, at most 1,000,000 tenths, and a source and a sink that differ
abbrev pub right_fits : Right → Bool
right_fits r = hour_fits r.path.hour && (nat_le r.tenths 1000000 && not (r.path.source == r.path.sink))

-- each right fits, and none has the path and hour of a later one
abbrev pub each_fits : List Right → Bool
each_fits [] = true
each_fits (r ∷ rs) = (right_fits r && not (is_some (right_on r.path rs))) && each_fits rs

-- at most 200 of them
abbrev pub rights_fit : List Right → Bool
rights_fit rs = nat_le (length rs) 200 && each_fits rs
