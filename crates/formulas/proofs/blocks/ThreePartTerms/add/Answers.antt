use Rattle.std.proofs.Common.{◌≡◌, true, pos, ◌-ℤ◌, neg_ℤ, sym, ap, ◌∙◌, arith, w32, w64, to_z, of_z}
use Rattle.std.specs.Int.Signed.{le_z}
use Rattle.std.proofs.lemmas.Int.{ints}
use Rattle.formulas.specs.Kinds.{grains}
use Rattle.formulas.proofs.Terms.{three_taken}
use Rattle.formulas.proofs.blocks.ThreePartTerms.add.Goals as goal

pub returns-then-block-self : goal.returns-then-block-self
returns-then-block-self c =
    let p = c.args.block.price in
    let y = c.args.self.now.y.cents in
    let z = c.args.self.now.z.cents in
    let r = c.in_grains.result in
    let t : true ≡ le_z p y = omega (arith, ints) in
    let e : to_z w32 (of_z w32 z) ≡ z = omega (arith, ints) in
    let v : r ≡ grains 100 z c.args.block.tenths = rw e at c.in_grains.ensures.value in
    let x : to_z w64 (of_z w64 (pos 0 -ℤ to_z w64 (of_z w64 r))) ≡ neg_ℤ r = omega (arith, ints) in
    record {
      value = x ∙ ap neg_ℤ v ∙ sym (three_taken c.args.block.tenths y z p (sym t));
      size = record { low = omega (arith, ints); high = omega (arith, ints) };
    }
