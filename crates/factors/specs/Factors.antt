-- The factors: percentiles of the ratios of 1 to 30 days, in hundredths. Assumes nothing.
use Rattle.std.specs.Prelude.{ℕ, cond, ◌&&◌, List, map, length, Ok, Err, Option, Result, nat_le}
use Rattle.ranking.specs.declared.fault.NoDays.{NoDays}
use Rattle.ranking.specs.Answer.{percentile_of}
use Rattle.factors.specs.declared.days.Dollars.{Dollars}
use Rattle.factors.specs.declared.days.Quantities.{Quantities}
use Rattle.factors.specs.declared.ratio.Ratio.{Ratio}
use Rattle.factors.specs.Ratios.{not_above, in_hundredths}
use Rattle.factors.specs.Days.{first_ratio, second_ratio}

-- the ratio is rounded only once it is ranked
abbrev pub rounded : Result Ratio NoDays → Result ℕ NoDays
rounded (Ok x) = Ok (in_hundredths x)
rounded (Err f) = Err f

-- the percentile p of the ratios that 1 to 30 days have, or the fault
unfoldable pub factor_of : {D : Type 0} → (D → Option Ratio) → List D → ℕ → Result ℕ NoDays
factor_of ratio days p =
    cond (nat_le 1 (length days) && nat_le (length days) 30) (rounded (percentile_of not_above (map ratio days) p)) (Err (record {}))

-- the 95th percentile of the first ratio
abbrev pub default_e1 : List Dollars → Result ℕ NoDays
default_e1 days = factor_of first_ratio days 95

-- the 75th percentile of the first ratio
abbrev pub favourable_e1 : List Dollars → Result ℕ NoDays
favourable_e1 days = factor_of first_ratio days 75

-- nothing, whatever the days
abbrev pub default_e2 : ℕ
default_e2 = 0

-- the 25th percentile of the second ratio
abbrev pub favourable_e2 : List Quantities → Result ℕ NoDays
favourable_e2 days = factor_of second_ratio days 25

-- the whole, by default and otherwise
abbrev pub e3_for_all : ℕ
e3_for_all = 100
