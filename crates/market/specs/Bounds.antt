-- Numbers that lie between a bound and its negative, and sums and products of them. Assumes nothing.
use Rattle.std.specs.Prelude.{ℕ, suc, ◌+◌, ◌*◌, ◌≤◌, Bool, true, false, cond, ℤ, pos, negsuc, ◌+ℤ◌, ◌-ℤ◌, ◌*ℤ◌, neg_ℤ, ◌≤ℤ◌}
use Rattle.std.proofs.Common.{subst, mul-le-mul_right, arith}
use Rattle.std.proofs.Math.IntN.{*ℤ_comm}
use Rattle.std.proofs.lemmas.Int.{ints, clamps}
use Rattle.std.specs.Int.{int_max, int_min}

-- from -n to n
pub record Bounded (n : ℕ) (z : ℤ) : Type 0 where
  pub low : neg_ℤ (pos n) ≤ℤ z
  pub high : z ≤ℤ pos n

pub wider : (k n : ℕ) (z : ℤ) → k ≤ n → Bounded k z → Bounded n z
wider k n z h b = record { low = omega (arith, ints, b.low); high = omega (arith, ints, b.high) }

pub bounded_zero : (n : ℕ) → Bounded n (pos 0)
bounded_zero n = record { low = omega (arith, ints); high = omega (arith, ints) }

pub bounded_neg : (n : ℕ) (a : ℤ) → Bounded n a → Bounded n (neg_ℤ a)
bounded_neg n a f = record { low = omega (arith, ints, f.high); high = omega (arith, ints, f.low) }

pub bounded_sum : (n m : ℕ) (a b : ℤ) → Bounded n a → Bounded m b → Bounded (n + m) (a +ℤ b)
bounded_sum n m a b f g = record { low = omega (arith, ints, f.low, g.low); high = omega (arith, ints, f.high, g.high) }

pub bounded_less : (n m : ℕ) (a b : ℤ) → Bounded n a → Bounded m b → Bounded (n + m) (a -ℤ b)
bounded_less n m a b f g = record { low = omega (arith, ints, f.low, g.high); high = omega (arith, ints, f.high, g.low) }

pub bounded_max : (n : ℕ) (a b : ℤ) → Bounded n a → Bounded n b → Bounded n (int_max a b)
bounded_max n a b f g = record { low = omega (arith, ints, clamps, f.low, g.low); high = omega (arith, ints, clamps, f.high, g.high) }

pub bounded_min : (n : ℕ) (a b : ℤ) → Bounded n a → Bounded n b → Bounded n (int_min a b)
bounded_min n a b f g = record { low = omega (arith, ints, clamps, f.low, g.low); high = omega (arith, ints, clamps, f.high, g.high) }

pub bounded_either : (n : ℕ) (t : Bool) (a b : ℤ) → Bounded n a → Bounded n b → Bounded n (cond t a b)
bounded_either n true a b f g = f
bounded_either n false a b f g = g

-- m times a number from -k to k
pub bounded_times : (k m : ℕ) (z : ℤ) → Bounded k z → Bounded (k * m) (z *ℤ pos m)
bounded_times k m (pos a) b =
    let p : a ≤ k = omega (arith, ints, b.high) in
    let q : a * m ≤ k * m = mul-le-mul_right m p in
    record { low = omega (arith, ints); high = omega (arith, ints) }
bounded_times k m (negsuc a) b =
    let p : suc a ≤ k = omega (arith, ints, b.low) in
    let q : suc a * m ≤ k * m = mul-le-mul_right m p in
    record { low = omega (arith, ints); high = omega (arith, ints) }

pub times_bounded : (k m : ℕ) (z : ℤ) → Bounded k z → Bounded (k * m) (pos m *ℤ z)
times_bounded k m z b = subst (λ (y : ℤ). Bounded (k * m) y) (*ℤ_comm z (pos m)) (bounded_times k m z b)
