-- The number of each fault of a rule. Assumes nothing.
use Rattle.std.specs.Prelude.{ℕ}
use Rattle.exposure.specs.declared.fault.RuleFault.{RuleFault}
use Rattle.exposure.specs.declared.fault.RuleFault.TheVariants.{UnknownPoint, NoDays, CoverAboveQuantity}

abbrev pub fault_number : RuleFault → ℕ
fault_number (UnknownPoint f) = 1
fault_number (NoDays letter point hour) = 2
fault_number CoverAboveQuantity = 3
