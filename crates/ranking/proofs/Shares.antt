-- The share of n is 1 to n, and is the share of its hundreds and of the rest: a hundred's share of p
-- percent is p exactly, so that only the rest is rounded.
use Rattle.std.proofs.Common.{◌≡◌, ℕ, ◌+◌, ◌*◌, ◌/◌, ◌%◌, ◌<◌, ◌≤◌, ap, ◌∙◌, mul-le-mul_right, mul_assoc, mul_comm, div-lt_iff_lt-mul, mul-le-mul, le-div_iff_mul-le, mul-add, arith}
use Rattle.ranking.specs.Counts.{share}

pub share_low : (p n : ℕ) → 1 ≤ p → 1 ≤ n → 1 ≤ share p n
share_low p n hp hn =
    let m : 1 * 1 ≤ p * n = mul-le-mul hp hn in
    (le-div_iff_mul-le {k = 100} {x = 1} {y = p * n + 99} (omega arith)).1 (omega arith)

pub share_high : (p n : ℕ) → p ≤ 100 → share p n ≤ n
share_high p n hp =
    let m : p * n ≤ 100 * n = mul-le-mul_right n hp in
    let l : share p n < n + 1 = (div-lt_iff_lt-mul {k = 100} {x = p * n + 99} {y = n + 1} (omega arith)).1 (omega arith) in
    omega arith

-- a product goes by the hundreds and the rest
parts : (p h r : ℕ) → p * (100 * h + r) ≡ 100 * (h * p) + r * p
parts p h r =
    let a : p * (100 * h + r) ≡ p * (100 * h) + p * r = mul-add p (100 * h) r in
    let b : p * (100 * h) ≡ 100 * (h * p) = mul_comm p (100 * h) ∙ mul_assoc 100 h p in
    let c : p * r ≡ r * p = mul_comm p r in
    omega arith

pub share_parts : (p n : ℕ) → (n / 100) * p + ((n % 100) * p + 99) / 100 ≡ share p n
share_parts p n =
    let whole : n ≡ 100 * (n / 100) + n % 100 = omega arith in
    let e : p * n ≡ 100 * ((n / 100) * p) + (n % 100) * p = ap (λ m. p * m) whole ∙ parts p (n / 100) (n % 100) in
    omega arith
