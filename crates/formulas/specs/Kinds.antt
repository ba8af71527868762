-- The exposure of each kind, in grains: percentile figures in cents, factors in hundredths, steps of a curve. Assumes nothing.
use Rattle.std.specs.Prelude.{◌≡◌, ℕ, ◌-◌, cond, ◌⊎◌, List, [], ◌∷◌, ℤ, pos, ◌+ℤ◌, ◌-ℤ◌, ◌*ℤ◌, neg_ℤ, ◌≤ℤ◌, int_le, int_lt}
use Rattle.std.specs.List.{AllByRecursion}
use Rattle.std.specs.Int.{int_max, int_min}
use Rattle.market.specs.declared.step.Step.{Step}

-- hundredths times cents times tenths
abbrev pub grains : ℕ → ℤ → ℕ → ℤ
grains e p m = (pos e *ℤ p) *ℤ pos m

-- some step of a curve is such
abbrev pub SomeStep : (Step → Type 0) → List Step → Type 0
SomeStep P [] = ⊥
SomeStep P (s ∷ ss) = P s ⊎ SomeStep P ss

-- An energy bid. With A the lesser of d and p, a step gives q · max(0, 100·A + e1·(p − A)), and 0 where p is not above 0.
abbrev pub at_price : ℕ → ℤ → ℤ → ℕ → ℤ
at_price e a p q = int_max ((pos 100 *ℤ a) +ℤ (pos e *ℤ (p -ℤ a))) (pos 0) *ℤ pos q

abbrev pub bid_step : ℕ → ℤ → Step → ℤ
bid_step e d s = cond (int_le s.price (pos 0)) (pos 0) (at_price e (int_min d s.price) s.price s.quantity)

-- the greatest over the steps, none of which is below 0
abbrev pub greatest : (Step → ℤ) → ℤ → List Step → ℤ
greatest f top [] = top
greatest f top (s ∷ ss) = greatest f (int_max top (f s)) ss

-- the same in words: no step gives more, and one gives as much
pub record Greatest (f : Step → ℤ) (xs : List Step) (r : ℤ) : Type 0 where
  pub none_more : AllByRecursion (λ s. f s ≤ℤ r) xs
  pub reached : SomeStep (λ s. f s ≡ r) xs

abbrev pub energy_bid : ℕ → ℤ → List Step → ℤ
energy_bid e d xs = greatest (bid_step e d) (pos 0) xs

-- A sum over blocks: a step's quantity less the one before.
abbrev pub over_blocks : (ℤ → ℕ → ℤ) → ℕ → List Step → ℤ
over_blocks f before [] = pos 0
over_blocks f before (s ∷ ss) = f s.price (s.quantity - before) +ℤ over_blocks f s.quantity ss

-- An energy-only offer. A block adds e3·s·m; with p ≤ a also −e2·b·m when b > 0, and −100·b·m when b < 0.
abbrev pub credit : ℕ → ℤ → ℕ → ℤ
credit e b m = cond (int_lt (pos 0) b) (neg_ℤ (grains e b m)) (cond (int_lt b (pos 0)) (neg_ℤ (grains 100 b m)) (pos 0))

abbrev pub offer_block : ℕ → ℕ → ℤ → ℤ → ℤ → ℤ → ℕ → ℤ
offer_block e2 e3 a b s p m = grains e3 s m +ℤ cond (int_le p a) (credit e2 b m) (pos 0)

abbrev pub energy_only_offer : ℕ → ℕ → ℤ → ℤ → ℤ → List Step → ℤ
energy_only_offer e2 e3 a b s xs = over_blocks (offer_block e2 e3 a b s) 0 xs

-- A three-part offer. A block adds −100·z·m when p ≤ y.
abbrev pub three_part_block : ℤ → ℤ → ℤ → ℕ → ℤ
three_part_block y z p m = cond (int_le p y) (neg_ℤ (grains 100 z m)) (pos 0)

abbrev pub three_part_offer : ℤ → ℤ → List Step → ℤ
three_part_offer y z xs = over_blocks (three_part_block y z) 0 xs

-- A point-to-point bid: 100·q·(max(0, p) + w), less 90·p·c when p > 0.
abbrev pub path_step : ℤ → ℕ → Step → ℤ
path_step w c s = grains 100 (int_max s.price (pos 0) +ℤ w) s.quantity -ℤ cond (int_lt (pos 0) s.price) (grains 90 s.price c) (pos 0)
