-- The rules of a curve, over its steps in order. Assumes nothing.
use Rattle.std.specs.Prelude.{Bool, true, ◌&&◌, List, [], ◌∷◌, length, Some, None, Option, int_le, nat_le, nat_lt}
use Rattle.market.specs.declared.step.Step.{Step}
use Rattle.market.specs.declared.step.Side.{Side}
use Rattle.market.specs.declared.step.Side.TheVariants.{Bid, Offer}
use Rattle.market.specs.Units.{price_fits, quantity_fits}

abbrev pub step_fits : Step → Bool
step_fits s = quantity_fits s.quantity && price_fits s.price

-- quantities rise strictly; prices never rise along a bid's curve and never fall along an offer's
abbrev pub follows : Side → Option Step → Step → Bool
follows side None y = true
follows Bid (Some x) y = nat_lt x.quantity y.quantity && int_le y.price x.price
follows Offer (Some x) y = nat_lt x.quantity y.quantity && int_le x.price y.price

-- each step fits, and follows the one before, if any
abbrev pub chained : Side → Option Step → List Step → Bool
chained side last [] = true
chained side last (y ∷ ys) = (step_fits y && follows side last y) && chained side (Some y) ys

-- 1 to 10 such steps
abbrev pub lawful : Side → List Step → Bool
lawful side xs = (nat_le 1 (length xs) && nat_le (length xs) 10) && chained side None xs
