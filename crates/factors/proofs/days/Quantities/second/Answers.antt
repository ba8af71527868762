-- The two ways of the test are the cases of the definition; offers below 0 do not come.
use Rattle.std.proofs.Common.{◌≡◌, pos, ◌<ℤ◌, refl, arith, w64, to_z, of_z}
use Rattle.std.proofs.lemmas.Int.{ints}
use Rattle.factors.proofs.Fractions.{second_none, second_above, quantity_low, quantity_high}
use Rattle.factors.proofs.days.Quantities.second.Goals as goal

pub returns-then-self-eq0 : goal.returns-then-self-eq0
returns-then-self-eq0 c = second_none c.args.self.bids c.args.self.offers _ (omega (arith, ints)) refl refl

pub returns : goal.returns
returns c =
    let b = c.args.self.bids in
    let f = c.args.self.offers in
    let f-low = quantity_low f c.requires.offers in
    let f-high = quantity_high f c.requires.offers in
    let b-low = quantity_low b c.requires.bids in
    let b-high = quantity_high b c.requires.bids in
    let back : to_z w64 (of_z w64 f) ≡ f = omega (arith, ints) in
    let same : to_z w64 (of_z w64 b) ≡ b = omega (arith, ints) in
    let above : pos 0 <ℤ f = omega (arith, ints) in
    second_above b f _ _ c.portion.result back same above c.portion.ensures.over c.portion.ensures.brought
