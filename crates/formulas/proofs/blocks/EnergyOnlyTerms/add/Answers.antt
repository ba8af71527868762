use Rattle.std.proofs.Common.{◌≡◌, true, false, ◌+ℤ◌, sym, ◌∙◌, arith, w32, w64, to_z, of_z}
use Rattle.std.specs.Int.Signed.{le_z}
use Rattle.std.proofs.lemmas.Int.{ints}
use Rattle.formulas.specs.Kinds.{grains, credit}
use Rattle.formulas.proofs.Terms.{offer_taken, offer_left}
use Rattle.formulas.proofs.blocks.EnergyOnlyTerms.add.Goals as goal

pub overflow_add-result : goal.overflow_add-result
overflow_add-result c = omega (arith, ints)

pub returns-then-block-self : goal.returns-then-block-self
returns-then-block-self c =
    let t = c.args.self.now in
    let p = c.args.block.price in
    let m = c.args.block.tenths in
    let h = c.in_grains-held.result in
    let r = c.credited.result in
    let test : true ≡ le_z p t.a.cents = omega (arith, ints) in
    let es : to_z w32 (of_z w32 t.s.cents) ≡ t.s.cents = omega (arith, ints) in
    let v : h ≡ grains t.factors.e3 t.s.cents m = rw es at c.in_grains-held.ensures.value in
    let w : r ≡ credit t.factors.e2 t.b.cents m = c.credited.ensures.value in
    let x : to_z w64 (of_z w64 (to_z w64 (of_z w64 h) +ℤ to_z w64 (of_z w64 r))) ≡ h +ℤ r = omega (arith, ints) in
    record {
      value = x ∙ (λ i. v i +ℤ w i) ∙ sym (offer_taken t.factors.e2 t.factors.e3 m t.a.cents t.b.cents t.s.cents p (sym test));
      size = record { low = omega (arith, ints); high = omega (arith, ints) };
    }

pub returns-else-block-self : goal.returns-else-block-self
returns-else-block-self c =
    let t = c.args.self.now in
    let p = c.args.block.price in
    let m = c.args.block.tenths in
    let h = c.in_grains-held.result in
    let test : false ≡ le_z p t.a.cents = omega (arith, ints) in
    let es : to_z w32 (of_z w32 t.s.cents) ≡ t.s.cents = omega (arith, ints) in
    let v : h ≡ grains t.factors.e3 t.s.cents m = rw es at c.in_grains-held.ensures.value in
    let x : to_z w64 (of_z w64 h) ≡ h = omega (arith, ints) in
    record {
      value = x ∙ v ∙ sym (offer_left t.factors.e2 t.factors.e3 m t.a.cents t.b.cents t.s.cents p (sym test));
      size = record { low = omega (arith, ints); high = omega (arith, ints) };
    }
