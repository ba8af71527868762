-- What a curve and a submission hold. Assumes nothing.
use Rattle.std.specs.Prelude.{ℕ, ◌-◌, List, length, take, ℤ, pos, slice_index_or}
use Rattle.market.specs.declared.step.Step.{Step}
use Rattle.market.specs.declared.curve.Curve.{Curve}
use Rattle.market.specs.declared.submission.Submission.{Submission}

-- a place of a curve that holds no step
abbrev pub blank : Step
blank = record { quantity = 0; price = pos 0 }

abbrev pub steps_of : Curve → List Step
steps_of c = take c.count c.steps

abbrev pub last_of : Curve → Step
last_of c = slice_index_or (steps_of c) (length (steps_of c) - 1) blank

-- the quantity of a submission is that of its last step
abbrev pub quantity_of : Submission → ℕ
quantity_of s = (last_of s.curve).quantity

-- the price of a submission of one step
abbrev pub price_of : Submission → ℤ
price_of s = (last_of s.curve).price
