-- The steps that bytes write: each a quantity, then a price. Assumes nothing.
use Rattle.std.specs.Prelude.{ℕ, List, map}
use Rattle.std.specs.Simd.{first_chunks}
use Rattle.market.specs.declared.step.Step.{Step}
use Rattle.dayformat.specs.Bytes.{le4, le4_signed}

abbrev pub step_of : List ℕ → Step
step_of bs = record { quantity = le4 bs 0; price = le4_signed bs 4 }

-- so many of them, each eight bytes past the one before
abbrev pub steps_of : List ℕ → ℕ → List Step
steps_of bs n = map step_of (first_chunks 8 n bs)
