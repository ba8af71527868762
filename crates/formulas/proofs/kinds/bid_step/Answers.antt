use Rattle.std.proofs.Common.{◌≡◌, ◌*◌, ◌≤◌, false, pos, ◌+ℤ◌, ◌-ℤ◌, sym, ap, ◌∙◌, arith, lit≤, w32, w64, to_z, of_z}
use Rattle.std.specs.Int.Signed.{le_z}
use Rattle.std.proofs.lemmas.Int.{ints, clamps, to_z-of_z}
use Rattle.std.specs.Int.{int_max, int_min}
use Rattle.market.specs.Bounds.{Bounded, bounded_less, bounded_sum, bounded_max, bounded_zero, wider}
use Rattle.formulas.specs.Kinds.{at_price}
use Rattle.formulas.specs.Within.{price_bounded}
use Rattle.formulas.proofs.Backs.{less_back, sum_back, fits32, fits64, bounded_is}
use Rattle.formulas.proofs.Tops.{at_price_is, bid_taken}
use Rattle.formulas.proofs.kinds.bid_step.Goals as goal

pub of_tenths-requires-clause-price : goal.of_tenths-requires-clause-price
of_tenths-requires-clause-price c = record { low = omega (arith, ints, clamps); high = omega (arith, ints, clamps) }

pub returns : goal.returns
returns c =
    let s = c.args.step in
    let p = s.price in
    let q = s.quantity in
    let e1 = c.args.factors.e1 in
    let d = c.args.d.cents in
    let a = c.min-lesser.result in
    let least : a ≡ int_min d p = omega (arith, ints, clamps) in
    let t : false ≡ le_z p (pos 0) = omega (arith, ints) in
    let a-in : Bounded 4000000 a = record { low = omega (arith, ints, clamps); high = omega (arith, ints, clamps) } in
    let p-in = price_bounded 0 s c.requires in
    let w₁ = c.weighted.result in
    let w₂ = c.weighted-2.result in
    let m = c.max.result in
    let r = c.of_tenths.result in
    let e = to_z-of_z w32 a (fits32 4000000 a a-in (lit≤ tt)) in
    let f : to_z w32 (of_z w32 (to_z w32 (of_z w32 p) -ℤ to_z w32 (of_z w32 a))) ≡ p -ℤ a =
    less_back w32 p a (fits32 1000000 p p-in (lit≤ tt)) (fits32 4000000 a a-in (lit≤ tt)) (fits32 5000000 (p -ℤ a) (bounded_less 1000000 4000000 p a p-in a-in) (lit≤ tt)) in
    let b₁ = c.weighted.ensures.size in
    let b₂ = c.weighted-2.ensures.size in
    let b = bounded_sum 500000000 500000000 w₁ w₂ b₁ b₂ in
    let sum = sum_back w64 w₁ w₂ (fits64 _ w₁ b₁ (lit≤ tt)) (fits64 _ w₂ b₂ (lit≤ tt)) (fits64 _ _ b (lit≤ tt)) in
    let top = bounded_is 1000000000 m _ (c.max.ensures.value ∙ ap (λ z. int_max z (pos 0)) sum) (bounded_max 1000000000 (w₁ +ℤ w₂) (pos 0) b (bounded_zero 1000000000)) in
    let g = to_z-of_z w64 m (fits64 _ m top (lit≤ tt)) in
    let size = c.of_tenths.ensures.size 1000000000 (bounded_is _ _ m g top) in
    let n : 1000000000 * q ≤ 100000000000000 = omega (arith, c.requires.most) in
    let x = to_z-of_z w64 r (fits64 (1000000000 * q) r size (omega (arith, c.requires.most))) in
    let within = bounded_is 100000000000000 _ r x (wider (1000000000 * q) _ r n size) in
    let value = at_price_is e1 q a p _ _ w₁ w₂ _ m _ r c.weighted.ensures.value c.weighted-2.ensures.value c.max.ensures.value c.of_tenths.ensures.value e f sum g in
    record {
      value = x ∙ value ∙ ap (λ z. at_price e1 z p q) least ∙ sym (bid_taken e1 d s (sym t));
      size = within;
    }
