-- Each row lies within 10^14 grains of 0, and so a sum of n rows within n times that.
use Rattle.std.proofs.Common.{◌≡◌, ℕ, zero, suc, ◌*◌, ◌<◌, ◌≤◌, true, List, [], ◌∷◌, ◌++◌, length, get_or, ℤ, pos, negsuc, ◌+ℤ◌, ◌-ℤ◌, neg_ℤ, ◌≤ℤ◌, sym, refl, ap, ◌∙◌, subst, arith}
use Rattle.std.proofs.Math.IntN.{+ℤ_assoc, +ℤ_comm}
use Rattle.std.specs.Int.Signed.{le_z, mag, ≤ℤ_refl}
use Rattle.std.proofs.lemmas.Bool.{and_from}
use Rattle.std.proofs.lemmas.Int.{ints}
use Rattle.std.specs.List.{remove}
use Rattle.market.specs.Facts.{left_of, right_of}
use Rattle.market.specs.Bounds.{Bounded}
use Rattle.rights.specs.declared.row.Row.{Row}
use Rattle.history.specs.Sums.{sum, small, grains}

pub bounded : (x : ℤ) → grains x ≡ true → Bounded 100000000000000 x
bounded x h =
    let p = left_of (le_z (neg_ℤ (pos 100000000000000)) x) (le_z x (pos 100000000000000)) h in
    let q = right_of (le_z (neg_ℤ (pos 100000000000000)) x) (le_z x (pos 100000000000000)) h in
    record { low = grind (arith, ints); high = grind (arith, ints) }

pub grains_in : (x : ℤ) → Bounded 100000000000000 x → grains x ≡ true
grains_in x b = grind (arith, ints)

pub sum_bounds : (rs : List Row) → small rs ≡ true → Bounded (length rs * 100000000000000) (sum rs)
sum_bounds [] h = record { low = ≤ℤ_refl (pos 0); high = ≤ℤ_refl (pos 0) }
sum_bounds (r ∷ rs) h =
    let i = sum_bounds rs (right_of (grains r.exposure) (small rs) h) in
    let b = bounded r.exposure (left_of (grains r.exposure) (small rs) h) in
    record { low = omega (arith, ints); high = omega (arith, ints) }

pub mag_within : (z : ℤ) (k : ℕ) → neg_ℤ (pos k) ≤ℤ z → z ≤ℤ pos k → mag z ≤ k
mag_within (pos n) k l h = omega (arith, ints)
mag_within (negsuc n) k l h = omega (arith, ints)

-- one row more
pub sum_push : (rs : List Row) (q : Row) → sum (rs ++ (q ∷ [])) ≡ sum rs +ℤ q.exposure
sum_push [] q = +ℤ_comm q.exposure (pos 0)
sum_push (r ∷ rs) q = ap (λ (z : ℤ). r.exposure +ℤ z) (sum_push rs q) ∙ sym (+ℤ_assoc r.exposure (sum rs) q.exposure)

pub small_push : (rs : List Row) (q : Row) → small rs ≡ true → grains q.exposure ≡ true → small (rs ++ (q ∷ [])) ≡ true
small_push [] q h g = and_from (grains q.exposure) true g refl
small_push (r ∷ rs) q h g =
    and_from (grains r.exposure) (small (rs ++ (q ∷ []))) (left_of (grains r.exposure) (small rs) h) (small_push rs q (right_of (grains r.exposure) (small rs) h) g)

-- one row less
pub small_removed : (rs : List Row) (i : ℕ) → small rs ≡ true → small (remove rs i) ≡ true
small_removed [] zero h = refl
small_removed [] (suc i) h = refl
small_removed (r ∷ rs) zero h = right_of (grains r.exposure) (small rs) h
small_removed (r ∷ rs) (suc i) h =
    and_from (grains r.exposure) (small (remove rs i)) (left_of (grains r.exposure) (small rs) h) (small_removed rs i (right_of (grains r.exposure) (small rs) h))

sum_out : (rs : List Row) (i : ℕ) (d : Row) → i < length rs → sum (remove rs i) ≡ sum rs -ℤ (get_or rs i d).exposure
sum_out [] i d h = absurd (omega arith)
sum_out (r ∷ rs) zero d h = omega (arith, ints)
sum_out (r ∷ rs) (suc i) d h = let j = sum_out rs i d (omega arith) in omega (arith, ints)

bounded_in : (rs : List Row) (i : ℕ) (d : Row) → i < length rs → small rs ≡ true → Bounded 100000000000000 (get_or rs i d).exposure
bounded_in [] i d h s = absurd (omega arith)
bounded_in (r ∷ rs) zero d h s = bounded r.exposure (left_of (grains r.exposure) (small rs) s)
bounded_in (r ∷ rs) (suc i) d h s = bounded_in rs i d (omega arith) (right_of (grains r.exposure) (small rs) s)

-- the row at a place, as an index reads it
module _ (rs : List Row) (i : ℕ) (q : Row) (h : i < length rs) (at : q ≡ get_or rs i q) where
  pub sum_removed : sum (remove rs i) ≡ sum rs -ℤ q.exposure
  sum_removed = sum_out rs i q h ∙ ap (λ (y : Row). sum rs -ℤ y.exposure) (sym at)

  pub bounded_at : small rs ≡ true → Bounded 100000000000000 q.exposure
  bounded_at s = subst (λ (y : Row). Bounded 100000000000000 y.exposure) (sym at) (bounded_in rs i q h s)
