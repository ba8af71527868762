-- A sum or a difference of the code is that of the integers.
use Rattle.std.proofs.Common.{◌≡◌, ℕ, ◌≤◌, ℤ, ◌+ℤ◌, ◌-ℤ◌, sym, ap, ◌∙◌, subst, arith, w32, w64, SFits, to_z, of_z}
use mir.Syntax.{Width}
use Rattle.std.proofs.lemmas.Int.{ints, to_z-of_z}
use Rattle.market.specs.Bounds.{Bounded}

pub sum_back : (w : Width) (a b : ℤ) → SFits w a → SFits w b → SFits w (a +ℤ b) → to_z w (of_z w (to_z w (of_z w a) +ℤ to_z w (of_z w b))) ≡ a +ℤ b
sum_back w a b f g h = ap (λ z. to_z w (of_z w z)) (λ i. to_z-of_z w a f i +ℤ to_z-of_z w b g i) ∙ to_z-of_z w (a +ℤ b) h

pub less_back : (w : Width) (a b : ℤ) → SFits w a → SFits w b → SFits w (a -ℤ b) → to_z w (of_z w (to_z w (of_z w a) -ℤ to_z w (of_z w b))) ≡ a -ℤ b
less_back w a b f g h = ap (λ z. to_z w (of_z w z)) (λ i. to_z-of_z w a f i -ℤ to_z-of_z w b g i) ∙ to_z-of_z w (a -ℤ b) h

pub fits64 : (n : ℕ) (z : ℤ) → Bounded n z → n ≤ 1000000000000000 → SFits w64 z
fits64 n z b h = omega (arith, ints, b.low, b.high)

pub fits32 : (n : ℕ) (z : ℤ) → Bounded n z → n ≤ 2000000000 → SFits w32 z
fits32 n z b h = omega (arith, ints, b.low, b.high)

pub bounded_is : (n : ℕ) (a b : ℤ) → a ≡ b → Bounded n b → Bounded n a
bounded_is n a b e h = subst (λ (z : ℤ). Bounded n z) (sym e) h
