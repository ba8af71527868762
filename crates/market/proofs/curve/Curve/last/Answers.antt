use Rattle.std.proofs.Common.{◌≡◌, ℕ, ◌-◌, ◌≤◌, length, get_or, sym, ap, ◌∙◌, subst, arith}
use Rattle.std.proofs.lemmas.List.{get_or-take, length-take}
use Rattle.market.specs.declared.step.Step.{Step}
use Rattle.market.specs.Orders.{Fit}
use Rattle.market.specs.Reading.{blank, steps_of}
use Rattle.market.proofs.Orderings.{lawful_one, last_fits}
use Rattle.market.proofs.curve.Curve.last.Goals as goal

pub returns : goal.returns
returns c =
    let curve = c.args.self.now in
    let n = curve.count in
    let k : 1 ≤ length (steps_of curve) = lawful_one curve.side (steps_of curve) curve.kept in
    let e : length (steps_of curve) ≡ n = simp length-take (omega arith) in
    let same = sym (get_or-take n curve.steps (n - 1) blank (omega arith)) ∙ ap (λ (m : ℕ). get_or (steps_of curve) (m - 1) blank) (sym e) in
    record { value = same; fit = subst (λ (x : Step). Fit 0 x) (sym same) (last_fits curve) }
