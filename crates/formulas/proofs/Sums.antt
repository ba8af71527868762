-- One more block of a sum.
use Rattle.std.proofs.Common.{◌≡◌, ℕ, ◌+◌, ◌-◌, ◌*◌, ◌<◌, ◌≤◌, List, length, get_or, drop, ℤ, pos, ◌+ℤ◌, sym, ap, ◌∙◌, subst, arith}
use Rattle.std.proofs.lemmas.List.{drop_more, at_drop_more, at_drop_all}
use Rattle.std.proofs.lemmas.Int.{ints}
use Rattle.market.specs.declared.step.Step.{Step}
use Rattle.market.specs.Orders.{Fit, Orderly}
use Rattle.market.specs.Bounds.{Bounded}
use Rattle.formulas.specs.Kinds.{over_blocks}

pub orderly_more : (before : ℕ) (xs : List Step) (i : ℕ) (d : Step) → i < length xs → Orderly before (drop i xs) → Fit before (get_or xs i d) × Orderly (get_or xs i d).quantity (drop (i + 1) xs)
orderly_more before xs i d h o = let P : List Step → Type 0 = λ zs. Orderly before zs in subst P (drop_more xs i d h) o

module _ (f : ℤ → ℕ → ℤ) (xs : List Step) (i before : ℕ) (d : Step) where
  pub turn : (S r S' p whole : ℤ) → i < length xs → Orderly before (drop i xs)
      → Bounded (1000000000 * before) S
      → S +ℤ over_blocks f before (drop i xs) ≡ whole
      → p ≡ (get_or xs i d).price
      → r ≡ f p ((get_or xs i d).quantity - before)
      → Bounded (1000000000 * ((get_or xs i d).quantity - before)) r
      → S' ≡ S +ℤ r
      → (S' +ℤ over_blocks f (get_or xs i d).quantity (drop (i + 1) xs) ≡ whole)
      × Bounded (1000000000 * (get_or xs i d).quantity) S'
      × Orderly (get_or xs i d).quantity (drop (i + 1) xs)
      × ((get_or xs i d).quantity ≤ 100000)
  turn S r S' p whole h o b e same is k next =
      let x = get_or xs i d in
      let more = orderly_more before xs i d h o in
      let fit = more.0 in
      let v : r ≡ f x.price (x.quantity - before) = is ∙ ap (λ z. f z (x.quantity - before)) same in
      let rest = over_blocks f x.quantity (drop (i + 1) xs) in
      let split : over_blocks f before (drop i xs) ≡ f x.price (x.quantity - before) +ℤ rest = at_drop_more (over_blocks f before) xs i d h in
      let e' : S +ℤ (r +ℤ rest) ≡ whole = ap (λ z. S +ℤ (z +ℤ rest)) v ∙ ap (λ z. S +ℤ z) (sym split) ∙ e in (
        omega (arith, ints, e', next),
        record { low = omega (arith, ints, b.low, k.low, fit.above, next); high = omega (arith, ints, b.high, k.high, fit.above, next) },
        more.1,
        fit.most,
      )

  pub whole_is : (S whole : ℤ) → length xs ≤ i → S +ℤ over_blocks f before (drop i xs) ≡ whole → S ≡ whole
  whole_is S whole h e =
      let none : over_blocks f before (drop i xs) ≡ pos 0 = at_drop_all (over_blocks f before) xs i h in
      omega (arith, ints, e, none)
