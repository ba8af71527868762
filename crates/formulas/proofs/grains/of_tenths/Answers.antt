use Rattle.std.proofs.Common.{ℕ, ◌*◌, ◌≤◌, ℤ, pos, ◌*ℤ◌, sym, subst, arith, w64}
use Rattle.std.proofs.lemmas.Int.{ints, to_z-of_z}
use Rattle.market.specs.Bounds.{Bounded}
use Rattle.market.specs.Bounds.{bounded_times, wider}
use Rattle.formulas.proofs.Products.{product_fits, product_is}
use Rattle.formulas.proofs.grains.of_tenths.Goals as goal

small : (price : ℤ) (m : ℕ) → Bounded 1000000000 price → m ≤ 100000 → Bounded 1000000000000000 (price *ℤ pos m)
small price m b h = wider (1000000000 * m) _ _ (omega arith) (bounded_times 1000000000 m price b)

pub overflow_mul-result : goal.overflow_mul-result
overflow_mul-result c =
    product_fits _ _ c.args.price (pos c.args.tenths) (to_z-of_z w64 _ c.ranges.price) (omega (arith, ints)) (small _ _ c.requires.price c.requires.tenths)

pub returns : goal.returns
returns c =
    let e = product_is _ _ c.args.price (pos c.args.tenths) (to_z-of_z w64 _ c.ranges.price) (omega (arith, ints)) (small _ _ c.requires.price c.requires.tenths) in
    record {
      value = e;
      size = λ k b. subst (λ (z : ℤ). Bounded (k * c.args.tenths) z) (sym e) (bounded_times k c.args.tenths c.args.price b);
    }
