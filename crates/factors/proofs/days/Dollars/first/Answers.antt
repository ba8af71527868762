-- The three ways of the tests are the three cases of the definition.
use Rattle.std.proofs.Common.{◌≡◌, pos, ◌-ℤ◌, neg_ℤ, ◌<ℤ◌, refl, arith, w64, to_z, of_z}
use Rattle.std.proofs.lemmas.Int.{ints}
use Rattle.factors.proofs.Fractions.{first_none, first_above, first_below, dollars_low, dollars_high}
use Rattle.factors.proofs.days.Dollars.first.Goals as goal

pub returns-then-self-eq0 : goal.returns-then-self-eq0
returns-then-self-eq0 c = first_none c.args.self.bids c.args.self.offers _ (omega (arith, ints)) refl refl

pub returns-then-self-gt0 : goal.returns-then-self-gt0
returns-then-self-gt0 c =
    let b = c.args.self.bids in
    let o = c.args.self.offers in
    let b-low = dollars_low b c.requires.bids in
    let b-high = dollars_high b c.requires.bids in
    let o-low = dollars_low o c.requires.offers in
    let o-high = dollars_high o c.requires.offers in
    let back : to_z w64 (of_z w64 b) ≡ b = omega (arith, ints) in
    let difference : to_z w64 (of_z w64 (to_z w64 (of_z w64 b) -ℤ to_z w64 (of_z w64 o))) ≡ b -ℤ o = omega (arith, ints) in
    let above : pos 0 <ℤ b = omega (arith, ints) in
    first_above b o _ _ c.portion.result back difference above c.portion.ensures.over c.portion.ensures.brought

pub returns-else-self-gt0 : goal.returns-else-self-gt0
returns-else-self-gt0 c =
    let b = c.args.self.bids in
    let o = c.args.self.offers in
    let b-low = dollars_low b c.requires.bids in
    let b-high = dollars_high b c.requires.bids in
    let o-low = dollars_low o c.requires.offers in
    let o-high = dollars_high o c.requires.offers in
    let back : to_z w64 (of_z w64 (pos 0 -ℤ to_z w64 (of_z w64 b))) ≡ neg_ℤ b = omega (arith, ints) in
    let difference : to_z w64 (of_z w64 (to_z w64 (of_z w64 o) -ℤ to_z w64 (of_z w64 b))) ≡ o -ℤ b = omega (arith, ints) in
    let below : b <ℤ pos 0 = omega (arith, ints) in
    first_below b o _ _ c.portion-else-self-gt0.result back difference below c.portion-else-self-gt0.ensures.over c.portion-else-self-gt0.ensures.brought
