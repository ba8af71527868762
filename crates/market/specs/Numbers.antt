-- The number that a call returns for each refusal. Assumes nothing.
use Rattle.std.specs.Prelude.{ℕ}
use Rattle.market.specs.declared.refusal.Refusal.{Refusal}
use Rattle.market.specs.declared.refusal.Refusal.TheVariants.{FiguresUnfit, KindUnfit, CurveUnfit, OutOfRange}

abbrev pub number_of : Refusal → ℕ
number_of FiguresUnfit = 11
number_of KindUnfit = 12
number_of CurveUnfit = 13
number_of OutOfRange = 14
