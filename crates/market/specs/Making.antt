-- The curve and the submission that figures make, or the first refusal that meets them. Assumes nothing.
use Rattle.std.specs.Prelude.{◌≡◌, ◌-◌, Bool, true, false, List, ◌++◌, length, replicate, Some, None, Ok, Err, Option, Result, refl}
use Rattle.std.proofs.Common.{ap, ◌∙◌}
use Rattle.std.proofs.Math.Seq.{take-append_seam}
use Rattle.market.specs.declared.step.Step.{Step}
use Rattle.market.specs.declared.step.Side.{Side}
use Rattle.market.specs.declared.curve.Curve.{Curve}
use Rattle.market.specs.declared.kind.Kind.{Kind}
use Rattle.market.specs.declared.kind.Figures.{Figures}
use Rattle.market.specs.declared.refusal.Refusal.{Refusal}
use Rattle.market.specs.declared.refusal.Refusal.TheVariants.{FiguresUnfit, KindUnfit, CurveUnfit}
use Rattle.market.specs.declared.submission.Submission.{Submission}
use Rattle.market.specs.Curves.{lawful}
use Rattle.market.specs.Submissions.{named, kind_of, suits, side_of}
use Rattle.market.specs.Facts.{lawful_short, faces_own}
use Rattle.market.specs.Reading.{blank}

-- steps in the ten places of a curve
abbrev pub padded : List Step → List Step
padded xs = xs ++ replicate (10 - length xs) blank

-- the curve of exactly these steps
abbrev pub curve_with : (side : Side) (xs : List Step) → lawful side xs ≡ true → Curve
curve_with side xs e = record {
  side = side;
  steps = padded xs;
  count = length xs;
  short = lawful_short side xs e;
  kept = ap (lawful side) (take-append_seam xs (replicate (10 - length xs) blank)) ∙ e;
}

abbrev pub curve_by : (side : Side) (xs : List Step) (test : Bool) → lawful side xs ≡ test → Result Curve Refusal
curve_by side xs true e = Ok (curve_with side xs e)
curve_by side xs false e = Err CurveUnfit

-- a curve where the steps keep the rules of their side
unfoldable pub curve_of : Side → List Step → Result Curve Refusal
curve_of side xs = curve_by side xs (lawful side xs) refl

module _ (f : Figures) (xs : List Step) where
  -- last, the curve's rules
  abbrev pub by_curve : named f.number f.qse f.hour ≡ true → (k : Kind) → suits k (length xs) ≡ true → (test : Bool) → lawful (side_of k) xs ≡ test → Result Submission Refusal
  by_curve n k s true e = Ok (record {
    number = f.number;
    qse = f.qse;
    hour = f.hour;
    kind = k;
    curve = curve_with (side_of k) xs e;
    fit = n;
    suited = s;
    sided = faces_own k;
  })
  by_curve n k s false e = Err CurveUnfit

  -- then whether the kind suits its path, claim and count of steps
  abbrev pub by_kind : named f.number f.qse f.hour ≡ true → (k : Kind) → (test : Bool) → suits k (length xs) ≡ test → Result Submission Refusal
  by_kind n k true s = by_curve n k s (lawful (side_of k) xs) refl
  by_kind n k false s = Err KindUnfit

  -- then whether the figures name a kind
  abbrev pub by_name : named f.number f.qse f.hour ≡ true → Option Kind → Result Submission Refusal
  by_name n None = Err KindUnfit
  by_name n (Some k) = by_kind n k (suits k (length xs)) refl

  -- first the number, the QSE and the hour
  abbrev pub by_figures : (test : Bool) → named f.number f.qse f.hour ≡ test → Result Submission Refusal
  by_figures true n = by_name n (kind_of f)
  by_figures false n = Err FiguresUnfit

-- the submission of exactly these figures and steps, where no test refuses them
unfoldable pub submission_of : Figures → List Step → Result Submission Refusal
submission_of f xs = by_figures f xs (named f.number f.qse f.hour) refl
