-- What the tests of a making call find is what its definition says. The proofs that a curve and a
-- submission carry are of propositions, so that two such values with equal figures are equal.
use Rattle.std.proofs.Common.{◌≡◌, ℕ, ◌≤◌, Bool, true, false, List, length, take, Some, None, Ok, Err, Option, Result, sym, refl, ap, ◌∙◌, subst, arith}
use Rattle.std.specs.Option.{ok_or}
use Rattle.std.proofs.Math.Bool.{Bool-set}
use Rattle.std.proofs.Math.Bridge.{le_prop}
use Rattle.std.proofs.lemmas.Bool.{both_ways}
use Rattle.market.specs.declared.step.Step.{Step}
use Rattle.market.specs.declared.step.Side.{Side}
use Rattle.market.specs.declared.curve.Curve.{Curve}
use Rattle.market.specs.declared.kind.Kind.{Kind}
use Rattle.market.specs.declared.kind.Figures.{Figures}
use Rattle.market.specs.declared.refusal.Refusal.{Refusal}
use Rattle.market.specs.declared.refusal.Refusal.TheVariants.{FiguresUnfit, KindUnfit, CurveUnfit}
use Rattle.market.specs.declared.submission.Submission.{Submission}
use Rattle.market.specs.Curves.{lawful}
use Rattle.market.specs.Submissions.{named, kind_of, suits, side_of, faces}
use Rattle.market.specs.Facts.{faces_own}
use Rattle.market.specs.Making.{padded, curve_with, curve_by, curve_of, by_curve, by_kind, by_name, by_figures, submission_of}

module _ (side : Side) (xs : List Step) where
  -- a curve with these steps in its places is the curve of these steps
  curve_same : (short : length xs ≤ 10) (held : List Step) (e : held ≡ padded xs) (kept : lawful side (take (length xs) held) ≡ true) (l : lawful side xs ≡ true) →
      ◌≡◌ {A = Curve} (record { side = side; steps = held; count = length xs; short = short; kept = kept }) (curve_with side xs l)
  curve_same short held e kept l =
      let at : List Step → Type 0 = λ h. (k : lawful side (take (length xs) h) ≡ true) → ◌≡◌ {A = Curve} (record { side = side; steps = h; count = length xs; short = short; kept = k }) (curve_with side xs l) in
      subst at (sym e)
      (λ k. ap (λ (s : length xs ≤ 10). record { side = side; steps = padded xs; count = length xs; short = s; kept = k }) (le_prop short (curve_with side xs l).short)
      ∙ ap (λ (q : lawful side (take (length xs) (padded xs)) ≡ true). record { side = side; steps = padded xs; count = length xs; short = (curve_with side xs l).short; kept = q }) (Bool-set _ _ k (curve_with side xs l).kept))
      kept

  by_true : (short : length xs ≤ 10) (held : List Step) (e : held ≡ padded xs) (kept : lawful side (take (length xs) held) ≡ true) (test : Bool) (l : lawful side xs ≡ test) → test ≡ true →
      Ok (record { side = side; steps = held; count = length xs; short = short; kept = kept }) ≡ curve_by side xs test l
  by_true short held e kept true l t = ap Ok (curve_same short held e kept l)
  by_true short held e kept false l t = absurd (both_ways false refl t)

  by_false : (test : Bool) (l : lawful side xs ≡ test) → test ≡ false → Err CurveUnfit ≡ curve_by side xs test l
  by_false true l t = absurd (both_ways true t refl)
  by_false false l t = refl

  pub curve_made : (short : length xs ≤ 10) (held : List Step) (e : held ≡ padded xs) (kept : lawful side (take (length xs) held) ≡ true) → lawful side xs ≡ true →
      Ok (record { side = side; steps = held; count = length xs; short = short; kept = kept }) ≡ curve_of side xs
  unfolding curve_of
  curve_made short held e kept l = by_true short held e kept (lawful side xs) refl l

  pub curve_refused : lawful side xs ≡ false → Err CurveUnfit ≡ curve_of side xs
  unfolding curve_of
  curve_refused l = by_false (lawful side xs) refl l

  curve_by_ok : (test : Bool) (l : lawful side xs ≡ test) (c : Curve) → Ok c ≡ curve_by side xs test l → (k : lawful side xs ≡ true) × (c ≡ curve_with side xs k)
  curve_by_ok true l c e = (l, cc)
  curve_by_ok false l c e = let z : ◌≡◌ {A = ℕ} 0 1 = cc in absurd (omega arith)

  -- what a curve that was made is
  pub curve_is : (c : Curve) → Ok c ≡ curve_of side xs → (k : lawful side xs ≡ true) × (c ≡ curve_with side xs k)
  unfolding curve_of
  curve_is c e = curve_by_ok (lawful side xs) refl c e

  curve_by_err : (test : Bool) (l : lawful side xs ≡ test) (f : Refusal) → Err f ≡ curve_by side xs test l → (lawful side xs ≡ false) × (f ≡ CurveUnfit)
  curve_by_err true l f e = let z : ◌≡◌ {A = ℕ} 0 1 = cc in absurd (omega arith)
  curve_by_err false l f e = (l, cc)

  -- and what refused one that was not
  pub curve_unfit : (f : Refusal) → Err f ≡ curve_of side xs → (lawful side xs ≡ false) × (f ≡ CurveUnfit)
  unfolding curve_of
  curve_unfit f e = curve_by_err (lawful side xs) refl f e

-- what reading a kind answers says whether the figures name one
pub kind_read : (o : Option Kind) (k : Kind) → Ok k ≡ ok_or o KindUnfit → o ≡ Some k
kind_read None k e = let z : ◌≡◌ {A = ℕ} 0 1 = cc in absurd (omega arith)
kind_read (Some x) k e = let q : k ≡ x = cc in ap Some (sym q)

pub kind_unread : (o : Option Kind) (g : Refusal) → Err g ≡ ok_or o KindUnfit → (o ≡ None) × (g ≡ KindUnfit)
kind_unread None g e = (refl, cc)
kind_unread (Some x) g e = let z : ◌≡◌ {A = ℕ} 0 1 = cc in absurd (omega arith)

module _ (f : Figures) (xs : List Step) where
  abbrev Named : Type 0
  Named = named f.number f.qse f.hour ≡ true

  unnamed : (test : Bool) (n : named f.number f.qse f.hour ≡ test) → test ≡ false → Err FiguresUnfit ≡ by_figures f xs test n
  unnamed true n t = absurd (both_ways true t refl)
  unnamed false n t = refl

  pub figures_refused : named f.number f.qse f.hour ≡ false → Err FiguresUnfit ≡ submission_of f xs
  unfolding submission_of
  figures_refused n = unnamed (named f.number f.qse f.hour) refl n

  past_figures : (r : Result Submission Refusal) (o : Option Kind) → kind_of f ≡ o → ((n : Named) → r ≡ by_name f xs n o) →
      (test : Bool) (n : named f.number f.qse f.hour ≡ test) → test ≡ true → r ≡ by_figures f xs test n
  past_figures r o e h true n t = h n ∙ ap (by_name f xs n) (sym e)
  past_figures r o e h false n t = absurd (both_ways false refl t)

  reaches : (r : Result Submission Refusal) (o : Option Kind) → Named → kind_of f ≡ o → ((n : Named) → r ≡ by_name f xs n o) → r ≡ submission_of f xs
  unfolding submission_of
  reaches r o n e h = past_figures r o e h (named f.number f.qse f.hour) refl n

  pub no_kind : Named → kind_of f ≡ None → Err KindUnfit ≡ submission_of f xs
  no_kind n e = reaches (Err KindUnfit) None n e (λ m. refl)

  module _ (k : Kind) where
    unsuited : (n : Named) (test : Bool) (s : suits k (length xs) ≡ test) → test ≡ false → Err KindUnfit ≡ by_kind f xs n k test s
    unsuited n true s t = absurd (both_ways true t refl)
    unsuited n false s t = refl

    pub kind_unfit : Named → kind_of f ≡ Some k → suits k (length xs) ≡ false → Err KindUnfit ≡ submission_of f xs
    kind_unfit n e s = reaches (Err KindUnfit) (Some k) n e (λ m. unsuited m (suits k (length xs)) refl s)

    suited_by : (r : Result Submission Refusal) → ((n : Named) (s : suits k (length xs) ≡ true) → r ≡ by_curve f xs n k s (lawful (side_of k) xs) refl) →
        (n : Named) (test : Bool) (s : suits k (length xs) ≡ test) → test ≡ true → r ≡ by_kind f xs n k test s
    suited_by r h n true s t = h n s
    suited_by r h n false s t = absurd (both_ways false refl t)

    past_kind : (r : Result Submission Refusal) → Named → kind_of f ≡ Some k → suits k (length xs) ≡ true →
        ((n : Named) (s : suits k (length xs) ≡ true) → r ≡ by_curve f xs n k s (lawful (side_of k) xs) refl) → r ≡ submission_of f xs
    past_kind r n e s h = reaches r (Some k) n e (λ m. suited_by r h m (suits k (length xs)) refl s)

    unlawful_by : (n : Named) (s : suits k (length xs) ≡ true) (test : Bool) (l : lawful (side_of k) xs ≡ test) → test ≡ false → Err CurveUnfit ≡ by_curve f xs n k s test l
    unlawful_by n s true l t = absurd (both_ways true t refl)
    unlawful_by n s false l t = refl

    pub steps_refused : Named → kind_of f ≡ Some k → suits k (length xs) ≡ true → (g : Refusal) → Err g ≡ curve_of (side_of k) xs → Err g ≡ submission_of f xs
    steps_refused n e s g c =
        let u = curve_unfit (side_of k) xs g c in
        ap Err u.1 ∙ past_kind (Err CurveUnfit) n e s (λ m t. unlawful_by m t (lawful (side_of k) xs) refl u.0)

    filed : (c : Curve) → Named → suits k c.count ≡ true → faces k c.side ≡ true → Submission
    filed c n s d = record { number = f.number; qse = f.qse; hour = f.hour; kind = k; curve = c; fit = n; suited = s; sided = d }

    -- equal curves make equal submissions
    filed_same : (c c' : Curve) → c ≡ c' → (n n' : Named) (s : suits k c.count ≡ true) (s' : suits k c'.count ≡ true) (d : faces k c.side ≡ true) (d' : faces k c'.side ≡ true) →
        filed c n s d ≡ filed c' n' s' d'
    filed_same c c' e n n' s s' d d' =
        let at : Curve → Type 0 = λ (x : Curve). (t : suits k x.count ≡ true) (b : faces k x.side ≡ true) → filed x n t b ≡ filed c' n' s' d' in
        subst at (sym e)
        (λ t b. ap (λ (m : Named). filed c' m t b) (Bool-set _ _ n n')
        ∙ ap (λ (q : suits k c'.count ≡ true). filed c' n' q b) (Bool-set _ _ t s')
        ∙ ap (λ (q : faces k c'.side ≡ true). filed c' n' s' q) (Bool-set _ _ b d')) s d

    lawful_by : (c : Curve) (n : Named) (s : suits k c.count ≡ true) (d : faces k c.side ≡ true) →
        (m : Named) (t : suits k (length xs) ≡ true) (test : Bool) (l : lawful (side_of k) xs ≡ test) → (l' : lawful (side_of k) xs ≡ true) → c ≡ curve_with (side_of k) xs l' → test ≡ true →
        Ok (filed c n s d) ≡ by_curve f xs m k t test l
    unfolding filed
    lawful_by c n s d m t true l l' e z =
        ap Ok (filed_same c (curve_with (side_of k) xs l) (e ∙ ap (curve_with (side_of k) xs) (Bool-set _ _ l' l)) n m s t d (faces_own k))
    lawful_by c n s d m t false l l' e z = absurd (both_ways false refl z)

    pub submission_made : (c : Curve) (n : Named) (s : suits k c.count ≡ true) (d : faces k c.side ≡ true) → kind_of f ≡ Some k → suits k (length xs) ≡ true → Ok c ≡ curve_of (side_of k) xs →
        Ok (record { number = f.number; qse = f.qse; hour = f.hour; kind = k; curve = c; fit = n; suited = s; sided = d }) ≡ submission_of f xs
    unfolding filed
    submission_made c n s d e t made =
        let is = curve_is (side_of k) xs c made in
        past_kind (Ok (filed c n s d)) n e t (λ m q. lawful_by c n s d m q (lawful (side_of k) xs) refl is.0 is.1 is.0)
