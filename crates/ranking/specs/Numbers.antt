-- The number that a call returns for the fault of this crate. Assumes nothing.
use Rattle.std.specs.Prelude.{ℕ}
use Rattle.ranking.specs.declared.fault.NoDays.{NoDays}

-- no days
abbrev pub number_of : NoDays → ℕ
number_of f = 15
