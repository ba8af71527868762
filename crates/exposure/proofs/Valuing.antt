-- The first fault decides, and past the figures the formula answers.
use Rattle.std.proofs.Common.{◌≡◌, ℕ, Bool, true, false, cond, ltb, ℤ, Some, None, Ok, Err, Option, Result, refl, ap, ◌∙◌, lit≤, w64, to_z, of_z}
use Rattle.std.specs.Option.{ok_or}
use Rattle.std.proofs.lemmas.Int.{to_z-of_z}
use Rattle.market.specs.declared.curve.Curve.{Curve}
use Rattle.market.specs.Bounds.{Bounded}
use Rattle.market.specs.Reading.{last_of}
use Rattle.formulas.specs.Kinds.{path_step}
use Rattle.formulas.proofs.Backs.{fits64}
use Rattle.prices.specs.declared.path.Path.{Path}
use Rattle.prices.specs.declared.spread.Spread.{Spread}
use Rattle.prices.specs.Differences.{minus, floored}
use Rattle.prices.specs.Entries.{Entry}
use Rattle.exposure.specs.declared.fault.RuleFault.{RuleFault}
use Rattle.exposure.specs.declared.fault.RuleFault.TheVariants.{CoverAboveQuantity}
use Rattle.exposure.specs.Protocol.{then, covered}

-- a value of the code is itself
pub back : (x : ℤ) → Bounded 100000000000000 x → to_z w64 (of_z w64 x) ≡ x
back x b = to_z-of_z w64 x (fits64 100000000000000 x b (lit≤ tt))

pub stops : (f : RuleFault) (r : Result ℤ RuleFault) (k : ℤ → Result ℤ RuleFault) → Err f ≡ r → Err f ≡ then r k
stops f r k e = ap (λ (x : Result ℤ RuleFault). then x k) e

pub goes : (x : ℤ) (y : Result ℤ RuleFault) (r : Result ℤ RuleFault) (k : ℤ → Result ℤ RuleFault) → Ok x ≡ r → y ≡ k x → y ≡ then r k
goes x y r k e g = g ∙ ap (λ (z : Result ℤ RuleFault). then z k) e

or_by : (t : Bool) (x : ℤ) (f : RuleFault) → ok_or (cond t None (Some x)) f ≡ cond t (Err f) (Ok x)
or_by true x f = refl
or_by false x f = refl

-- a point-to-point bid is valued where its cover is not above its quantity
pub covered_or : (w : ℤ) (cover : ℕ) (c : Curve) (o : Option ℤ) → o ≡ cond (ltb (last_of c).quantity cover) None (Some (path_step w cover (last_of c))) → ok_or o CoverAboveQuantity ≡ covered w cover c
covered_or w cover c o e = ap (λ (x : Option ℤ). ok_or x CoverAboveQuantity) e ∙ or_by (ltb (last_of c).quantity cover) (path_step w cover (last_of c)) CoverAboveQuantity

-- the records made for a shortfall and for a path hold what they are to
pub shortfall_is : {X Y : Type 0} (real : X → ℕ → Entry) (ahead : Y → ℕ → Entry) (held made : Spread X Y) (x : X) (y : Y) → held ≡ made → made.first ≡ x → made.second ≡ y → (p : ℕ) → floored (minus (real held.first p) (ahead held.second p)) ≡ floored (minus (real x p) (ahead y p))
shortfall_is real ahead held made x y q e f p =
    let first : held.first ≡ x = (λ i. (q i).first) ∙ e in
    let second : held.second ≡ y = (λ i. (q i).second) ∙ f in
    λ i. floored (minus (real (first i) p) (ahead (second i) p))

pub path_is : {X : Type 0} (real : X → ℕ → Entry) (held made : Path X) (x : X) (s k : ℕ) → held ≡ made → made.inner ≡ x → made.source ≡ s → made.sink ≡ k → floored (minus (real held.inner held.source) (real held.inner held.sink)) ≡ floored (minus (real x s) (real x k))
path_is real held made x s k q e f g =
    let inner : held.inner ≡ x = (λ i. (q i).inner) ∙ e in
    let source : held.source ≡ s = (λ i. (q i).source) ∙ f in
    let sink : held.sink ≡ k = (λ i. (q i).sink) ∙ g in
    λ i. floored (minus (real (inner i) (source i)) (real (inner i) (sink i)))
