use Rattle.std.proofs.Common.{◌≡◌, ℕ, ◌≤◌, ℤ, pos, negsuc, ◌*ℤ◌, ◌≤ℤ◌, arith, w32, w64, to_z, of_z}
use Rattle.std.proofs.lemmas.Int.{ints}
use Rattle.market.specs.Bounds.{Bounded, wider}
use Rattle.exposure.specs.RateBounds.{grains_bounded}
use Rattle.exposure.specs.Rates.{in_grains}
use Rattle.formulas.proofs.Products.{product_fits, product_is}
use Rattle.exposure.proofs.rating.grains.Goals as goal

-- 10^13 is well below 10^15
small : (rate : ℤ) (tenths : ℕ) → negsuc 999999 ≤ℤ rate → rate ≤ℤ pos 1000000 → tenths ≤ 100000 → Bounded 1000000000000000 (in_grains rate tenths)
small rate tenths l h m = wider 10000000000000 _ _ (omega arith) (grains_bounded rate tenths (record { low = omega (arith, ints, l); high = omega (arith, ints, h) }) m)

hundredfold : (rate : ℤ) → negsuc 999999 ≤ℤ rate → rate ≤ℤ pos 1000000 → to_z w64 (of_z w64 (pos 100 *ℤ to_z w64 (of_z w64 (to_z w32 (of_z w32 rate))))) ≡ pos 100 *ℤ rate
hundredfold rate l h = omega (arith, ints)

widened : (tenths : ℕ) → tenths ≤ 100000 → to_z w64 tenths ≡ pos tenths
widened tenths m = omega (arith, ints)

pub overflow_mul-result-2 : goal.overflow_mul-result-2
overflow_mul-result-2 c =
    product_fits _ _ (pos 100 *ℤ c.args.rate) (pos c.args.tenths) (hundredfold c.args.rate c.requires.low c.requires.high) (widened c.args.tenths c.requires.most)
    (small c.args.rate c.args.tenths c.requires.low c.requires.high c.requires.most)

pub returns : goal.returns
returns c =
    product_is _ _ (pos 100 *ℤ c.args.rate) (pos c.args.tenths) (hundredfold c.args.rate c.requires.low c.requires.high) (widened c.args.tenths c.requires.most)
    (small c.args.rate c.args.tenths c.requires.low c.requires.high c.requires.most)
