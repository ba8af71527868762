use Rattle.std.proofs.Common.{sym, ap, ◌∙◌}
use Rattle.std.proofs.lemmas.Result.{err_from_is_err_and}
use Rattle.market.specs.declared.curve.Curve.{Curve}
use Rattle.market.specs.declared.step.Side.{Side}
use Rattle.market.specs.Facts.{faces_own}
use Rattle.market.specs.Submissions.{suits, faces, side_of, kind_of}
use Rattle.market.specs.Making.{curve_of}
use Rattle.market.proofs.Making.{curve_is, figures_refused, no_kind, kind_unfit, kind_read, kind_unread, steps_refused, submission_made}
use Rattle.market.proofs.submission.Submission.make.Goals as goal

pub returns-then-not-fit : goal.returns-then-not-fit
returns-then-not-fit c = figures_refused c.args.figures c.args.steps.now (sym c.if-not-fit.ensures)

pub returns-in_err-kind : goal.returns-in_err-kind
returns-in_err-kind c =
    let p = err_from_is_err_and c.from_residual.result c.from_residual.ensures.1 in
    let u = kind_unread (kind_of c.args.figures) c.in_err-kind.field-0.0 c.in_err-kind.ensures in
    rw (p.1, p.2, u.1) (no_kind c.args.figures c.args.steps.now (sym c.if-not-fit.ensures) u.0)

pub returns-then-not-suits : goal.returns-then-not-suits
returns-then-not-suits c =
    let k = c.in_ok-kind.kind in
    kind_unfit c.args.figures c.args.steps.now k (sym c.if-not-fit.ensures) (kind_read (kind_of c.args.figures) k c.in_ok-kind.ensures) (sym c.if-not-suits.ensures)

pub invariant_of-result : goal.invariant_of-result
invariant_of-result c =
    let xs = c.args.steps.now in
    let k = c.in_ok-kind.kind in
    let made = c.in_ok-curve.ensures ∙ ap (λ (side : Side). curve_of side xs) c.side.ensures in
    let is = curve_is (side_of k) xs c.in_ok-curve.curve made in
    record {
      fit = sym c.if-not-fit.ensures;
      suited = ap (λ (x : Curve). suits k x.count) is.1 ∙ sym c.if-not-suits.ensures;
      sided = ap (λ (x : Curve). faces k x.side) is.1 ∙ faces_own k;
    }

pub returns : goal.returns
returns c =
    let xs = c.args.steps.now in
    let k = c.in_ok-kind.kind in
    let made = c.in_ok-curve.ensures ∙ ap (λ (side : Side). curve_of side xs) c.side.ensures in
    submission_made c.args.figures xs k c.in_ok-curve.curve _ _ _ (kind_read (kind_of c.args.figures) k c.in_ok-kind.ensures) (sym c.if-not-suits.ensures) made

pub returns-in_err-curve : goal.returns-in_err-curve
returns-in_err-curve c =
    let xs = c.args.steps.now in
    let k = c.in_ok-kind.kind in
    let p = err_from_is_err_and c.from_residual-in_err-curve.result c.from_residual-in_err-curve.ensures.1 in
    let made = c.in_err-curve.ensures ∙ ap (λ (side : Side). curve_of side xs) c.side.ensures in
    rw (p.1, p.2) (steps_refused c.args.figures xs k (sym c.if-not-fit.ensures) (kind_read (kind_of c.args.figures) k c.in_ok-kind.ensures) (sym c.if-not-suits.ensures) c.in_err-curve.field-0.0 made)
