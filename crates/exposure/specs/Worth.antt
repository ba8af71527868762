-- The range of what a rule answers. Assumes nothing.
use Rattle.std.specs.Prelude.{ℤ, Ok, Err, Result}
use Rattle.market.specs.Bounds.{Bounded}

-- grains within 10^14 of 0, or a fault
abbrev pub Within : {E : Type 0} → Result ℤ E → Type 0
Within (Ok x) = Bounded 100000000000000 x
Within (Err e) = Unit {0}
