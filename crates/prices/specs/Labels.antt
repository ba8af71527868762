-- The number of each label. Assumes nothing.
use Rattle.std.specs.Prelude.{ℕ}
use Rattle.prices.specs.declared.fault.Label.{Label}
use Rattle.prices.specs.declared.fault.Label.TheVariants.{DayAhead, RealTime}

abbrev pub label_number : Label → ℕ
label_number DayAhead = 1
label_number RealTime = 2
