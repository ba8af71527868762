use Rattle.std.proofs.Common.{◌≡◌, ◌+◌, ◌*◌, ◌≤◌, true, false, ℤ, pos, ◌+ℤ◌, ◌-ℤ◌, sym, ap, ◌∙◌, subst, arith, w32, w64, to_z, of_z}
use Rattle.std.specs.Int.Signed.{lt_z}
use Rattle.std.proofs.lemmas.Int.{ints, clamps}
use Rattle.market.specs.Bounds.{Bounded}
use Rattle.formulas.specs.Kinds.{grains}
use Rattle.market.specs.Bounds.{bounded_less, wider}
use Rattle.formulas.proofs.Backs.{less_back, fits64}
use Rattle.formulas.proofs.Tops.{path_paid, path_free}
use Rattle.formulas.proofs.kinds.path_step.Goals as goal

pub returns-then-step-gt0 : goal.returns-then-step-gt0
returns-then-step-gt0 c =
    let s = c.args.step in
    let paid = c.in_grains-paid.result in
    let less = c.in_grains.result in
    let r = to_z w64 (of_z w64 (to_z w64 (of_z w64 paid) -ℤ to_z w64 (of_z w64 less))) in
    let e : to_z w32 (of_z w32 s.price) ≡ s.price = omega (arith, ints) in
    let x : to_z w32 (of_z w32 (to_z w32 (of_z w32 c.max.result) +ℤ to_z w32 (of_z w32 c.args.w.cents))) ≡ c.max.result +ℤ c.args.w.cents = omega (arith, ints, clamps) in
    let t : true ≡ lt_z (pos 0) s.price = omega (arith, ints) in
    let m = s.quantity in
    let k : Bounded (500000000 * m + 500000000 * c.args.cover) (paid -ℤ less) = bounded_less _ _ paid less c.in_grains-paid.ensures.size c.in_grains.ensures.size in
    let n : 500000000 * m + 500000000 * c.args.cover ≤ 100000000000000 = omega arith in
    let out : r ≡ paid -ℤ less = less_back w64 paid less (fits64 (500000000 * m) paid c.in_grains-paid.ensures.size (omega arith)) (fits64 (500000000 * c.args.cover) less c.in_grains.ensures.size (omega arith)) (fits64 _ (paid -ℤ less) k (omega arith)) in
    let size : Bounded 100000000000000 r = subst (λ (z : ℤ). Bounded 100000000000000 z) (sym out) (wider _ _ _ n k) in
    record {
      value = path_paid c.args.w.cents c.args.cover s _ c.max.result _ less paid r
          c.in_grains-paid.ensures.value c.max.ensures.value (sym t) (c.in_grains.ensures.value ∙ ap (λ z. grains 90 z c.args.cover) e)
          e x out;
      size = size;
    }

pub returns-else-step-gt0 : goal.returns-else-step-gt0
returns-else-step-gt0 c =
    let s = c.args.step in
    let paid = c.in_grains-paid.result in
    let r = to_z w64 (of_z w64 paid) in
    let e : to_z w32 (of_z w32 s.price) ≡ s.price = omega (arith, ints) in
    let x : to_z w32 (of_z w32 (to_z w32 (of_z w32 c.max.result) +ℤ to_z w32 (of_z w32 c.args.w.cents))) ≡ c.max.result +ℤ c.args.w.cents = omega (arith, ints, clamps) in
    let t : false ≡ lt_z (pos 0) s.price = omega (arith, ints) in
    let out : r ≡ paid = omega (arith, ints) in
    let size : Bounded 100000000000000 r = record { low = omega (arith, ints); high = omega (arith, ints) } in
    record {
      value = path_free c.args.w.cents c.args.cover s _ c.max.result _ paid r
          c.in_grains-paid.ensures.value c.max.ensures.value (sym t) e x out;
      size = size;
    }
