use Rattle.std.proofs.Common.{◌≡◌, ℕ, ◌-◌, take, sym, ap, subst, arith}
use Rattle.market.specs.Orders.{Orderly}
use Rattle.market.specs.Reading.{steps_of}
use Rattle.market.proofs.Orderings.{lawful_orderly}
use Rattle.market.proofs.curve.Curve.steps.Goals as goal

pub returns : goal.returns
returns c =
    let curve = c.args.self.now in
    let e : curve.count - 0 ≡ curve.count = omega arith in
    record {
      all = ap (λ (k : ℕ). take k curve.steps) e;
      orderly = subst (λ (k : ℕ). Orderly 0 (take k curve.steps)) (sym e) (lawful_orderly curve.side (steps_of curve) curve.kept);
    }
