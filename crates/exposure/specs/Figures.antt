-- Figures: percentiles of what a record has at a point and an hour over thirty days. Assumes nothing.
use Rattle.std.specs.Prelude.{ℕ, ◌+◌, cond, List, map, ℤ, None, Ok, Err, Option, Result, int_le}
use Rattle.std.specs.List.{range_with_len}
use Rattle.std.specs.Option.{unwrap_or}
use Rattle.formulas.specs.declared.figure.Figure.{Figure}
use Rattle.prices.specs.declared.fault.RecordFault.{RecordFault}
use Rattle.prices.specs.Entries.{Entry, known, unknown, on_calendar}
use Rattle.ranking.specs.declared.fault.NoDays.{NoDays as Nothing}
use Rattle.ranking.specs.Answer.{percentile_of}
use Rattle.ranking.specs.Letters.{percent_of}
use Rattle.exposure.specs.declared.fault.RuleFault.{RuleFault}
use Rattle.exposure.specs.declared.fault.RuleFault.TheVariants.{UnknownPoint, NoDays}

-- what the days 1 to 30 have at an hour
unfoldable pub days_of : (ℕ → ℕ → Option ℤ) → ℕ → List (Option ℤ)
days_of v h = map (λ (k : ℕ). cond (on_calendar h (k + 1)) (v h (k + 1)) None) (range_with_len 0 30)

-- all of them, or the fault of an unknown point
abbrev pub gathered : Entry → ℕ → Result (List (Option ℤ)) RecordFault
gathered (known v) h = Ok (days_of v h)
gathered (unknown l q) h = Err (record { label = l; point = q; hour = h })

-- a percentile without days names its letter, the point and the hour
abbrev pub ranked : ℕ → ℕ → ℕ → Result ℤ Nothing → Result ℤ RuleFault
ranked letter point h (Ok x) = Ok x
ranked letter point h (Err f) = Err (NoDays letter point h)

unfoldable pub figure_at : Entry → ℕ → ℕ → ℕ → ℕ → Result ℤ RuleFault
figure_at (known v) letter percent point h = ranked letter point h (percentile_of int_le (days_of v h) percent)
figure_at (unknown l q) letter percent point h = Err (UnknownPoint (record { label = l; point = q; hour = h }))

-- the figure of a letter's own percentile
abbrev pub lettered_at : Entry → ℕ → ℕ → ℕ → Result ℤ RuleFault
lettered_at e letter point h = figure_at e letter (unwrap_or (percent_of letter) 0) point h

abbrev pub in_cents : Result Figure RuleFault → Result ℤ RuleFault
in_cents (Ok x) = Ok x.cents
in_cents (Err f) = Err f
