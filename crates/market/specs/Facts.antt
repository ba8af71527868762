-- Facts by which a curve and a submission carry the proof that they keep their rules. Assumes nothing.
use Rattle.std.specs.Prelude.{◌≡◌, ◌≤◌, Bool, true, false, ◌&&◌, List, length, nat_le, refl}
use Rattle.std.proofs.lemmas.Bool.{leb-true, both_ways}
use Rattle.market.specs.declared.step.Step.{Step}
use Rattle.market.specs.declared.step.Side.{Side}
use Rattle.market.specs.declared.kind.Kind.{Kind}
use Rattle.market.specs.declared.kind.Kind.TheVariants.{EnergyBid, EnergyOnlyOffer, ThreePartOffer, PointToPoint}
use Rattle.market.specs.Curves.{lawful}
use Rattle.market.specs.Submissions.{side_of, faces}

pub left_of : (a b : Bool) → (a && b) ≡ true → a ≡ true
left_of true b e = refl
left_of false b e = e

pub right_of : (a b : Bool) → (a && b) ≡ true → b ≡ true
right_of true b e = e
right_of false b e = absurd (both_ways false refl e)

pub lawful_short : (side : Side) (xs : List Step) → lawful side xs ≡ true → length xs ≤ 10
lawful_short side xs e = leb-true (length xs) 10 (right_of (nat_le 1 (length xs)) _ (left_of (nat_le 1 (length xs) && nat_le (length xs) 10) _ e))

pub faces_own : (k : Kind) → faces k (side_of k) ≡ true
faces_own (EnergyBid p) = refl
faces_own (EnergyOnlyOffer p) = refl
faces_own (ThreePartOffer p) = refl
faces_own (PointToPoint source sink claim) = refl
