-- Every accepted submission of a run brought what its history says: its call found a view that followed the events before.
use Rattle.std.proofs.Common.{◌≡◌, List, [], ◌∷◌, ◌++◌, Ok, subst}
use Rattle.market.specs.declared.submission.Submission.{Submission}
use Rattle.history.specs.declared.accepted.Accepted.{Accepted}
use Rattle.history.specs.Answers.{submit_answer}
use Rattle.history.specs.Events.{Event, submitted}
use Rattle.history.specs.Runs.{Brought, Did, Leads}
use Rattle.history.specs.Views.{Meaning, Opening, View}
use Rattle.history.proofs.Accepting.{took}
use Rattle.history.proofs.Following.{brings, follows}
use Rattle.history.proofs.Tracing.{last}

module _ (o : Opening) (s : Submission) (m : Meaning) (a : Accepted) (before : List Event) where
  accepted : {c v : View} → Did c (submitted s m (Ok a)) v → Ok a ≡ submit_answer c s m
  accepted d = let h = d.answers in cc

  brought_last : (v : View) → Leads o (submitted s m (Ok a) ∷ before) v → Brought o before s m a
  brought_last v l = brings o before (last l).0 (follows (last l).1) s m a (took (last l).0 s m a (accepted (last l).2))

  brought_at : (later : List Event) (v : View) → Leads o (later ++ (submitted s m (Ok a) ∷ before)) v → Brought o before s m a
  brought_at [] v l = brought_last v l
  brought_at (e ∷ later) v l = brought_at later (last l).0 (last l).1

  pub brought : (es later : List Event) (v : View) → Leads o es v → es ≡ later ++ (submitted s m (Ok a) ∷ before) → Brought o before s m a
  brought es later v l h = brought_at later v (subst (λ (xs : List Event). Leads o xs v) h l)
