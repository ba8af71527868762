-- Runs: which histories lead from an opening to a view, and where a history holds a cancelled batch. Assumes nothing.
use Rattle.std.specs.Prelude.{◌≡◌, Bool, true, false, List, [], ◌∷◌, ◌++◌, is_ok, Ok}
use Rattle.market.specs.declared.submission.Submission.{Submission}
use Rattle.rights.specs.Covers.{cover_of}
use Rattle.history.specs.declared.accepted.Accepted.{Accepted}
use Rattle.history.specs.declared.batch.BatchCall.TheVariants.{Open, Keep, Cancel}
use Rattle.history.specs.Calls.{call, reply}
use Rattle.history.specs.Events.{Event, submitted, withdrew, batched, limited, after}
use Rattle.history.specs.Histories.{opens, cancels, standing}
use Rattle.history.specs.Views.{Meaning, View, Opening, start}

-- a call made: it is answered as the table says, and leaves what its answer leaves
pub record Did (v : View) (e : Event) (v' : View) : Type 0 where
  pub answers : e ≡ reply v (call e)
  pub leaves : v' ≡ after v e

-- the calls of a history, made one after another from the opening on, lead to a view
pub data Leads (o : Opening) : List Event → View → Type 0 where
  opened : {v : View} → v ≡ start o → Leads o [] v
  called : {es : List Event} {v v' : View} → Leads o es v → (e : Event) → Did v e v' → Leads o (e ∷ es) v'

-- what holds by every history that leads to a view
abbrev pub ByEveryHistory : View → (Opening → List Event → Type 0) → Type 0
ByEveryHistory v P = (o : Opening) (es : List Event) → Leads o es v → P o es

-- an accepted call that ends a batch
abbrev pub closes : Event → Bool
closes (submitted s m r) = false
closes (withdrew n r) = false
closes (batched Open r) = false
closes (batched Keep r) = is_ok r
closes (batched Cancel r) = is_ok r
closes (limited l r) = false

abbrev pub Unclosed : List Event → Type 0
Unclosed [] = Unit {0}
Unclosed (e ∷ es) = (closes e ≡ false) × Unclosed es

-- a history that holds a cancelled batch: the events before it, its opening, those inside, its cancelling, and the rest
pub record Cancelled (es before rest : List Event) : Type 0 where
  pub opening : Event
  pub inside : List Event
  pub cancelling : Event
  pub whole : es ≡ rest ++ (cancelling ∷ (inside ++ (opening ∷ before)))
  pub opened : opens opening ≡ true
  pub unclosed : Unclosed inside
  pub cancelled : cancels cancelling ≡ true

-- what an accepted submission brought: the cover by what stood just before it, and the value that its rule meant there
pub record Brought (o : Opening) (before : List Event) (s : Submission) (m : Meaning) (a : Accepted) : Type 0 where
  pub cover : a.cover ≡ cover_of o.rights (standing o before) s
  pub value : m s a.cover ≡ Ok a.exposure
