-- Cross-multiplication orders fractions: a chain of two comparisons, each multiplied by the bottom that it
-- lacks, gives the third with a factor above 0 on both sides, which goes out. Assumes nothing.
use Rattle.std.specs.Prelude.{◌≡◌, ℕ, ◌*◌, ◌<◌, ◌≤◌, Bool, true, false, not, T, ◌⊎◌, nat_le}
use Rattle.std.proofs.Math.Dec.{nleb→lt}
use Rattle.ranking.specs.Order.{TotalOrder, upto}
use Rattle.std.specs.declared.cmp.Ordering.TheVariants.{Less, Equal}
use Rattle.std.specs.Cmp.{IsTotalOrder, nat_cmp_total}
use Rattle.std.specs.Ordering.{is_le, nat_cmp, MatchOrdering}
use Rattle.std.proofs.Common.{sym, ap, ◌∙◌, inl, inr, leb→le, le→leb, le_of_mul-le-mul_right, mul-le-mul_right, mul_comm, mul_assoc, arith}
use Rattle.std.proofs.lemmas.Bool.Decides.{nat_tests}
use Rattle.std.proofs.lemmas.Cmp.{ranked}
use Rattle.factors.specs.declared.ratio.Ratio.{Ratio}
use Rattle.factors.specs.Ratios.{not_above, crossed}

-- the last two factors change places
swapped : (a b c : ℕ) → (a * b) * c ≡ (a * c) * b
swapped a b c = mul_assoc a b c ∙ ap (λ n. a * n) (mul_comm b c) ∙ sym (mul_assoc a c b)

-- a/b ≤ c/d and c/d ≤ e/f give a/b ≤ e/f
pub through : (a b c d e f : ℕ) → 0 < d → a * d ≤ c * b → c * f ≤ e * d → a * f ≤ e * b
through a b c d e f proper h k =
    let p : (a * d) * f ≤ (c * b) * f = mul-le-mul_right f h in
    let q : (c * f) * b ≤ (e * d) * b = mul-le-mul_right b k in
    let r : (a * f) * d ≤ (e * b) * d = omega (arith, p, q, swapped c b f, swapped a f d, swapped e b d) in
    le_of_mul-le-mul_right r proper

told : (b : Bool) → T b ⊎ T (not b)
told true = inl tt
told false = inr tt

pub one_way : (a b : ℕ) → T (nat_le a b) ⊎ T (nat_le b a)
one_way a b = elim (told (nat_le a b)) [ inl t ↦ inl t | inr n ↦ let h = nleb→lt a b n in inr (le→leb b a (omega arith)) ]

-- products of numbers compare, and a ratio's bottom is above 0: so "at most" is a total order of ratios
pub not_above_total : TotalOrder not_above
not_above_total = record {
  compares = λ x y. one_way (x.top * y.bottom) (y.top * x.bottom);
  transitive = λ x y z h k.
      le→leb _ _ (through x.top x.bottom y.top y.bottom z.top z.bottom y.proper (leb→le _ _ h) (leb→le _ _ k));
}

less : (a b : ℕ) → nat_cmp a b ≡ Less → a < b
less a b e = let m : MatchOrdering Less (a < b) (a ≡ b) (b < a) = ranked a b Less (sym e) in m

equal : (a b : ℕ) → nat_cmp a b ≡ Equal → a ≡ b
equal a b e = let m : MatchOrdering Equal (a < b) (a ≡ b) (b < a) = ranked a b Equal (sym e) in m

is_less : (a b : ℕ) → a < b → nat_cmp a b ≡ Less
is_less a b h = grind (arith, nat_tests)

below : (a b : ℕ) → (b ≤ a → ⊥) → a < b
below a b h = grind arith

-- numbers that are at most one another alike compare alike
alike : (a b c d : ℕ)
    → (a ≤ b → c ≤ d) → (c ≤ d → a ≤ b) → (b ≤ a → d ≤ c) → (d ≤ c → b ≤ a)
    → nat_cmp a b ≡ nat_cmp c d
alike a b c d f g h k = grind (arith, nat_tests)

-- and how ratios compare meets what `Ord` asks: those that are equal are equal values
pub crossed_total : IsTotalOrder crossed
crossed_total = record {
  antisymm = λ x y. nat_cmp_total.antisymm (x.top * y.bottom) (y.top * x.bottom);
  trans = λ x y z p q.
      let h = less (x.top * y.bottom) (y.top * x.bottom) p in
      let k = less (y.top * z.bottom) (z.top * y.bottom) q in
      let over : z.top * x.bottom ≤ x.top * z.bottom → ⊥ =
      λ back. let u = through z.top z.bottom x.top x.bottom y.top y.bottom x.proper back (omega arith) in absurd (omega arith) in
      is_less _ _ (below _ _ over);
  congr = λ x y z p.
      let e = equal (x.top * y.bottom) (y.top * x.bottom) p in
      let xy : x.top * y.bottom ≤ y.top * x.bottom = omega arith in
      let yx : y.top * x.bottom ≤ x.top * y.bottom = omega arith in
      alike _ _ _ _
      (λ h. through y.top y.bottom x.top x.bottom z.top z.bottom x.proper yx h)
      (λ h. through x.top x.bottom y.top y.bottom z.top z.bottom y.proper xy h)
      (λ h. through z.top z.bottom x.top x.bottom y.top y.bottom x.proper h xy)
      (λ h. through z.top z.bottom y.top y.bottom x.top x.bottom y.proper h yx);
}

at_most : (a b : ℕ) → is_le (nat_cmp a b) ≡ nat_le a b
at_most a b = grind (arith, nat_tests)

-- the order of `Ord` is the one that the factors are stated over
pub crossed_upto : ◌≡◌ {A = Ratio → Ratio → Bool} (upto crossed) not_above
crossed_upto i x y = at_most (x.top * y.bottom) (y.top * x.bottom) i
