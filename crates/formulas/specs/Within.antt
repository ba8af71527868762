-- Why the formulas stay within 10^14 grains: factors of at most 100, figures of at most 4,000,000 cents and
-- prices of at most 1,000,000, over at most 100,000 tenths. Assumes nothing.
use Rattle.std.specs.Prelude.{ℕ, ◌+◌, ◌-◌, ◌*◌, ◌≤◌, List, [], ◌∷◌, ℤ, pos, ◌+ℤ◌, ◌-ℤ◌, ◌*ℤ◌, int_le, int_lt}
use Rattle.std.proofs.Common.{arith, lit≤}
use Rattle.std.proofs.lemmas.Int.{ints}
use Rattle.std.specs.Int.{int_max, int_min}
use Rattle.market.specs.declared.step.Step.{Step}
use Rattle.market.specs.Orders.{Fit, Orderly}
use Rattle.market.specs.Bounds.{Bounded, wider, bounded_zero, bounded_neg, bounded_sum, bounded_less, bounded_max, bounded_min, bounded_either, bounded_times, times_bounded}
use Rattle.formulas.specs.Kinds.{grains, at_price, bid_step, greatest, energy_bid, over_blocks, credit, offer_block, three_part_block, path_step}

pub price_bounded : (before : ℕ) (s : Step) → Fit before s → Bounded 1000000 s.price
price_bounded before s fit = record { low = omega (arith, ints, fit.low); high = omega (arith, ints, fit.high) }

pub weighted_bounded : (e : ℕ) (p : ℤ) → e ≤ 100 → Bounded 5000000 p → Bounded 500000000 (pos e *ℤ p)
weighted_bounded e p h b = wider (5000000 * e) 500000000 _ (omega arith) (times_bounded 5000000 e p b)

pub grains_bounded : (e m : ℕ) (p : ℤ) → e ≤ 100 → Bounded 5000000 p → Bounded (500000000 * m) (grains e p m)
grains_bounded e m p h b = bounded_times 500000000 m (pos e *ℤ p) (weighted_bounded e p h b)

-- energy bids
pub at_price_bounded : (e q : ℕ) (a p : ℤ) → e ≤ 100 → Bounded 4000000 a → Bounded 1000000 p → q ≤ 100000 → Bounded 100000000000000 (at_price e a p q)
at_price_bounded e q a p h f g k =
    let w = bounded_sum 500000000 500000000 _ _ (weighted_bounded 100 a (lit≤ tt) (wider 4000000 5000000 a (lit≤ tt) f)) (weighted_bounded e (p -ℤ a) h (bounded_less 1000000 4000000 p a g f)) in
    let r = (pos 100 *ℤ a) +ℤ (pos e *ℤ (p -ℤ a)) in
    wider (1000000000 * q) 100000000000000 _ (omega arith) (bounded_times 1000000000 q (int_max r (pos 0)) (bounded_max 1000000000 r (pos 0) w (bounded_zero 1000000000)))

pub bid_step_bounded : (e : ℕ) (d : ℤ) (before : ℕ) (s : Step) → e ≤ 100 → Bounded 4000000 d → Fit before s → Bounded 100000000000000 (bid_step e d s)
bid_step_bounded e d before s h f fit =
    let p = price_bounded before s fit in
    bounded_either 100000000000000 (int_le s.price (pos 0)) _ _ (bounded_zero 100000000000000)
    (at_price_bounded e s.quantity (int_min d s.price) s.price h (bounded_min 4000000 d s.price f (wider 1000000 4000000 _ (lit≤ tt) p)) p fit.most)

pub greatest_bounded : (n : ℕ) (f : Step → ℤ) → ((before : ℕ) (s : Step) → Fit before s → Bounded n (f s)) → (top : ℤ) (before : ℕ) (xs : List Step) → Bounded n top → Orderly before xs → Bounded n (greatest f top xs)
greatest_bounded n f each top before [] b o = b
greatest_bounded n f each top before (s ∷ ss) b o = greatest_bounded n f each (int_max top (f s)) s.quantity ss (bounded_max n top (f s) b (each before s o.0)) o.1

pub energy_bid_bounded : (e : ℕ) (d : ℤ) (xs : List Step) → e ≤ 100 → Bounded 4000000 d → Orderly 0 xs → Bounded 100000000000000 (energy_bid e d xs)
energy_bid_bounded e d xs h f o = greatest_bounded 100000000000000 (bid_step e d) (λ before s fit. bid_step_bounded e d before s h f fit) (pos 0) 0 xs (bounded_zero 100000000000000) o

-- offers: sums over blocks
pub over_blocks_bounded : (f : ℤ → ℕ → ℤ) → ((p : ℤ) (m : ℕ) → Bounded (1000000000 * m) (f p m)) → (before : ℕ) (xs : List Step) → before ≤ 100000 → Orderly before xs → Bounded (1000000000 * (100000 - before)) (over_blocks f before xs)
over_blocks_bounded f each before [] h o = bounded_zero (1000000000 * (100000 - before))
over_blocks_bounded f each before (s ∷ ss) h o =
    let above = o.0.above in
    let most = o.0.most in
    let rest = over_blocks_bounded f each s.quantity ss most o.1 in
    wider (1000000000 * (s.quantity - before) + 1000000000 * (100000 - s.quantity)) _ _ (omega arith) (bounded_sum _ _ _ _ (each s.price (s.quantity - before)) rest)

pub credit_bounded : (e m : ℕ) (b : ℤ) → e ≤ 100 → Bounded 5000000 b → Bounded (500000000 * m) (credit e b m)
credit_bounded e m b h f =
    bounded_either _ (int_lt (pos 0) b) _ _ (bounded_neg _ _ (grains_bounded e m b h f))
    (bounded_either _ (int_lt b (pos 0)) _ _ (bounded_neg _ _ (grains_bounded 100 m b (lit≤ tt) f)) (bounded_zero _))

pub offer_block_bounded : (e₂ e₃ : ℕ) (a b s p : ℤ) (m : ℕ) → e₂ ≤ 100 → e₃ ≤ 100 → Bounded 5000000 b → Bounded 5000000 s → Bounded (1000000000 * m) (offer_block e₂ e₃ a b s p m)
offer_block_bounded e₂ e₃ a b s p m h k f g =
    wider (500000000 * m + 500000000 * m) _ _ (omega arith)
    (bounded_sum _ _ _ _ (grains_bounded e₃ m s k g) (bounded_either _ (int_le p a) _ _ (credit_bounded e₂ m b h f) (bounded_zero _)))

pub three_part_block_bounded : (y z p : ℤ) (m : ℕ) → Bounded 5000000 z → Bounded (1000000000 * m) (three_part_block y z p m)
three_part_block_bounded y z p m f =
    bounded_either _ (int_le p y) _ _ (bounded_neg _ _ (wider (500000000 * m) _ _ (omega arith) (grains_bounded 100 m z (lit≤ tt) f))) (bounded_zero _)

-- point-to-point bids
pub path_step_bounded : (w : ℤ) (c before : ℕ) (s : Step) → Bounded 4000000 w → Fit before s → c ≤ s.quantity → Bounded 100000000000000 (path_step w c s)
path_step_bounded w c before s f fit h =
    let p = price_bounded before s fit in
    let q = fit.most in
    let top = bounded_max 1000000 s.price (pos 0) p (bounded_zero 1000000) in
    wider (500000000 * s.quantity + 500000000 * c) _ _ (omega arith)
    (bounded_less _ _ _ _ (grains_bounded 100 s.quantity _ (lit≤ tt) (bounded_sum 1000000 4000000 _ w top f))
    (bounded_either _ (int_lt (pos 0) s.price) _ _ (grains_bounded 90 c s.price (lit≤ tt) (wider 1000000 5000000 _ (lit≤ tt) p)) (bounded_zero _)))
