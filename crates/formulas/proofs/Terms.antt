-- What the tests leave of a block's formula.
use Rattle.std.proofs.Common.{◌≡◌, ℕ, true, false, ℤ, ◌+ℤ◌, neg_ℤ, refl}
use Rattle.std.proofs.Math.IntN.{+ℤ_idr}
use Rattle.std.specs.Int.Signed.{le_z}
use Rattle.formulas.specs.Kinds.{grains, credit, offer_block, three_part_block}

pub offer_taken : (e2 e3 m : ℕ) (a b s p : ℤ) → le_z p a ≡ true → offer_block e2 e3 a b s p m ≡ grains e3 s m +ℤ credit e2 b m
offer_taken e2 e3 m a b s p t = rw t refl

pub offer_left : (e2 e3 m : ℕ) (a b s p : ℤ) → le_z p a ≡ false → offer_block e2 e3 a b s p m ≡ grains e3 s m
offer_left e2 e3 m a b s p t = rw t (+ℤ_idr (grains e3 s m))

pub three_taken : (m : ℕ) (y z p : ℤ) → le_z p y ≡ true → three_part_block y z p m ≡ neg_ℤ (grains 100 z m)
three_taken m y z p t = rw t refl
