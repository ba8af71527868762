use Rattle.std.proofs.Common.{◌≡◌, get_or, pos, arith, w32, to_z, of_z}
use Rattle.std.proofs.lemmas.Int.{ints}
use Rattle.market.specs.declared.step.Step.{Step}
use Rattle.formulas.proofs.Sums.{orderly_more, turn, whole_is}
use Rattle.formulas.proofs.blocks.over_blocks.Goals as goal

pub overflow_sub-step : goal.overflow_sub-step
overflow_sub-step g c =
    let d : Step = record { quantity = 0; price = pos 0 } in
    let fit = (orderly_more c.loop-step.before c.args.steps.now c.loop-step.step-index d c.loop-step-test.true c.loop-step.invariant.2).0 in
    omega (arith, fit.above)

pub invariant_of-add : goal.invariant_of-add
invariant_of-add g c =
    let d : Step = record { quantity = 0; price = pos 0 } in
    let fit = (orderly_more c.loop-step.before c.args.steps.now c.loop-step.step-index d c.loop-step-test.true c.loop-step.invariant.2).0 in
    omega (arith, fit.most)

pub loop-step-preserved : goal.loop-step-preserved
loop-step-preserved g c =
    let d : Step = record { quantity = 0; price = pos 0 } in
    let xs = c.args.steps.now in
    let i = c.loop-step.step-index in
    let before = c.loop-step.before in
    let fit = (orderly_more before xs i d c.loop-step-test.true c.loop-step.invariant.2).0 in
    let low = fit.low in let high = fit.high in let most = fit.most in let above = fit.above in
    let e : to_z w32 (of_z w32 (get_or xs i d).price) ≡ (get_or xs i d).price = omega (arith, ints) in
    turn (g.B.Terms.adds c.args.terms.now) xs i before d _ _ _ _ _ c.loop-step-test.true c.loop-step.invariant.2 c.loop-step.invariant.1 c.loop-step.invariant.0
    e c.add-sum.ensures.value c.add-sum.ensures.size (omega (arith, ints))

pub returns : goal.returns
returns g c =
    record {
      value = whole_is (g.B.Terms.adds c.args.terms.now) c.args.steps.now c.loop-step.step-index c.loop-step.before (record { quantity = 0; price = pos 0 }) _ _ c.loop-step-test.false c.loop-step.invariant.0;
      size = record { low = omega (arith, ints); high = omega (arith, ints) };
    }
