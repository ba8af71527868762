use Rattle.std.proofs.Common.{◌≡◌, ◌*◌, ℤ, pos, ◌*ℤ◌, sym, ap, ◌∙◌, subst, arith, w32, w64, to_z, of_z}
use Rattle.std.proofs.lemmas.Int.{ints, to_z-of_z}
use Rattle.market.specs.Bounds.{Bounded}
use Rattle.formulas.proofs.grains.in_grains.Goals as goal

pub returns : goal.returns
returns c =
    let w = c.weighted.result in
    let r = c.of_tenths.result in
    let e : to_z w64 (of_z w64 w) ≡ w = omega (arith, ints) in
    let f = to_z-of_z w32 c.args.cents c.ranges.cents in
    let size : Bounded (500000000 * c.args.tenths) r = c.of_tenths.ensures.size 500000000 (subst (λ (z : ℤ). Bounded 500000000 z) (sym e) c.weighted.ensures.size) in
    let x : to_z w64 (of_z w64 r) ≡ r = omega (arith, ints, size.low, size.high) in
    record {
      value = x ∙ c.of_tenths.ensures.value ∙ ap (λ z. z *ℤ pos c.args.tenths) (e ∙ c.weighted.ensures.value ∙ ap (λ z. pos c.args.factor *ℤ z) f);
      size = subst (λ (z : ℤ). Bounded (500000000 * c.args.tenths) z) (sym x) size;
    }
