use Rattle.std.proofs.Common.{ℤ, pos, sym, ap, ◌∙◌, subst, arith}
use Rattle.std.proofs.lemmas.Int.{ints, clamps}
use Rattle.market.specs.declared.step.Step.{Step}
use Rattle.market.proofs.Orderings.{orderly_at, lawful_one}
use Rattle.market.specs.Reading.{steps_of}
use Rattle.formulas.proofs.Greatests.{bid_in_words}
use Rattle.formulas.specs.Kinds.{bid_step, energy_bid, Greatest}
use Rattle.formulas.proofs.Tops.{top_turn, top_all}
use Rattle.formulas.proofs.kinds.energy_bid.Goals as goal

pub bid_step-requires : goal.bid_step-requires
bid_step-requires c =
    orderly_at 0 c.steps-steps.result.now c.loop-step.step-index (record { quantity = 0; price = pos 0 }) c.steps-steps.ensures.orderly c.loop-step-test.true

pub loop-step-preserved : goal.loop-step-preserved
loop-step-preserved c =
    let d : Step = record { quantity = 0; price = pos 0 } in (
      top_turn (bid_step c.args.factors.e1 c.args.d.cents) c.steps-steps.result.now c.loop-step.step-index d _ _ _ _ _ _
          c.loop-step-test.true c.loop-step.invariant.0 c.max-top.ensures.value
          c.bid_step.ensures.value
          (omega (arith, ints)) (omega (arith, ints, clamps)),
      record { low = omega (arith, ints, clamps); high = omega (arith, ints, clamps) },
    )

pub returns : goal.returns
returns c =
    let k = c.args.curve.now in
    let is = top_all _ c.steps-steps.result.now c.loop-step.step-index _ _ c.loop-step-test.false c.loop-step.invariant.0 ∙ ap (λ xs. energy_bid c.args.factors.e1 c.args.d.cents xs) c.steps-steps.ensures.all in
    record {
      value = is;
      words = subst (λ (r : ℤ). Greatest (bid_step c.args.factors.e1 c.args.d.cents) (steps_of k) r) (sym is) (bid_in_words c.args.factors.e1 c.args.d.cents (steps_of k) (lawful_one k.side (steps_of k) k.kept));
      size = c.loop-step.invariant.1;
    }
