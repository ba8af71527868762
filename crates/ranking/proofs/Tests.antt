-- Facts about tests and about what a day has, each by its cases.
use Rattle.std.proofs.Common.{◌≡◌, ℕ, Bool, true, false, not, ◌&&◌, ◌||◌, T, ◌⊎◌, Some, None, refl, inl, inr, arith}

pub true_or_false : (b : Bool) → (T b) ⊎ (b ≡ false)
true_or_false true = inl tt
true_or_false false = inr refl

pub true_is : (b : Bool) → T b → b ≡ true
true_is true t = refl
true_is false t = absurd t

pub false_is : (b : Bool) → (T b → ⊥) → b ≡ false
false_is true h = absurd (h tt)
false_is false h = refl

pub false_fails : (b : Bool) → b ≡ false → T b → ⊥
false_fails true n t = let z : ◌≡◌ {A = ℕ} 0 1 = cc in omega arith
false_fails false n t = t

pub both : (a b : Bool) → T a → T b → T (a && b)
both true b s t = t
both false b s t = s

pub left_of : (a b : Bool) → T (a && b) → T a
left_of true b t = tt
left_of false b t = t

pub right_of : (a b : Bool) → T (a && b) → T b
right_of true b t = t
right_of false b t = absurd t

pub imply : (a b : Bool) → (T a → T b) → T (not a || b)
imply true b h = h tt
imply false b h = tt

pub apply : (a b : Bool) → T (not a || b) → T a → T b
apply true b h t = h
apply false b h t = absurd t

-- a day that has nothing has no element
pub no_some : {E : Type 0} {y : E} {G : Type 0} → None ≡ Some y → G
no_some is = let z : ◌≡◌ {A = ℕ} 0 1 = cc in absurd (omega arith)

-- a day has one element
pub some_same : {E : Type 0} {x y : E} → Some x ≡ Some y → x ≡ y
some_same is = cc
