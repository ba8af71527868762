-- A lawful curve is in order: its quantities rise from 0, and each step is in range.
use Rattle.std.proofs.Common.{◌≡◌, ℕ, zero, suc, ◌-◌, ◌<◌, ◌≤◌, true, ◌&&◌, leb, List, [], ◌∷◌, length, get_or, pos, negsuc, Some, None, Option, arith, ltb-true, leb-true}
use Rattle.std.specs.Int.Signed.{le_z}
use Rattle.std.proofs.lemmas.Int.{ints}
use Rattle.market.specs.declared.step.Step.{Step}
use Rattle.market.specs.declared.curve.Curve.{Curve}
use Rattle.market.specs.declared.step.Side.{Side}
use Rattle.market.specs.declared.step.Side.TheVariants.{Bid, Offer}
use Rattle.market.specs.Curves.{step_fits, follows, chained, lawful}
use Rattle.market.specs.Facts.{left_of, right_of}
use Rattle.market.specs.Orders.{Fit, Orderly}
use Rattle.market.specs.Reading.{blank, steps_of, last_of}

-- the tenths reached before
abbrev reached : Option Step → ℕ
reached None = 0
reached (Some x) = x.quantity

above_of : (side : Side) (last : Option Step) (s : Step) → step_fits s ≡ true → follows side last s ≡ true → reached last < s.quantity
above_of side None s f g = leb-true 1 s.quantity (left_of _ _ (left_of _ _ f))
above_of Bid (Some x) s f g = ltb-true _ _ (left_of _ _ g)
above_of Offer (Some x) s f g = ltb-true _ _ (left_of _ _ g)

fit_of : (before : ℕ) (s : Step) → before < s.quantity → step_fits s ≡ true → Fit before s
fit_of before s h f =
    let q : leb s.quantity 100000 ≡ true = right_of (leb 1 s.quantity) _ (left_of _ _ f) in
    let p = right_of (leb 1 s.quantity && leb s.quantity 100000) _ f in
    let l : le_z (negsuc 999999) s.price ≡ true = left_of _ _ p in
    let u : le_z s.price (pos 1000000) ≡ true = right_of (le_z (negsuc 999999) s.price) _ p in
    record { above = h; most = leb-true _ _ q; low = omega (arith, ints); high = omega (arith, ints) }

chained_orderly : (side : Side) (last : Option Step) (xs : List Step) → chained side last xs ≡ true → Orderly (reached last) xs
chained_orderly side last [] e = tt
chained_orderly side last (s ∷ ss) e =
    let here = left_of (step_fits s && follows side last s) _ e in
    let f = left_of (step_fits s) _ here in (
      fit_of (reached last) s (above_of side last s f (right_of (step_fits s) _ here)) f,
      chained_orderly side (Some s) ss (right_of (step_fits s && follows side last s) _ e),
    )

pub lawful_orderly : (side : Side) (xs : List Step) → lawful side xs ≡ true → Orderly 0 xs
lawful_orderly side xs e = chained_orderly side None xs (right_of (leb 1 (length xs) && leb (length xs) 10) _ e)

pub lawful_one : (side : Side) (xs : List Step) → lawful side xs ≡ true → 1 ≤ length xs
lawful_one side xs e = leb-true 1 (length xs) (left_of _ _ (left_of (leb 1 (length xs) && leb (length xs) 10) _ e))

pub orderly_at : (before : ℕ) (xs : List Step) (i : ℕ) (d : Step) → Orderly before xs → i < length xs → Fit 0 (get_or xs i d)
orderly_at before [] i d o h = absurd (omega (arith, h))
orderly_at before (s ∷ ss) zero d o h = record { above = omega (arith, o.0.above); most = o.0.most; low = o.0.low; high = o.0.high }
orderly_at before (s ∷ ss) (suc i) d o h = orderly_at s.quantity ss i d o.1 (omega (arith, h))

-- the last step of any curve is in range
pub last_fits : (c : Curve) → Fit 0 (last_of c)
last_fits c =
    let xs = steps_of c in
    let one = lawful_one c.side xs c.kept in
    orderly_at 0 xs (length xs - 1) blank (lawful_orderly c.side xs c.kept) (omega (arith, one))
