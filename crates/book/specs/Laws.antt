-- What is promised of a book after every run of calls. Assumes nothing.
use Rattle.std.specs.Prelude.{◌≡◌, ◌≤◌, List, ◌∷◌, ◌++◌, map, ◌<ℤ◌, Ok}
use Rattle.std.specs.Option.{option_map}
use Rattle.market.specs.declared.right.PathHour.{PathHour}
use Rattle.market.specs.declared.submission.Submission.{Submission}
use Rattle.rights.specs.Covers.{drawn, free_of}
use Rattle.rights.specs.Rights.{tenths_of}
use Rattle.history.specs.declared.accepted.Accepted.{Accepted}
use Rattle.history.specs.Calls.{call}
use Rattle.history.specs.Events.{Event, submitted}
use Rattle.history.specs.Histories.{standing, exposure_by, free_by, limit_by, exposure_then}
use Rattle.history.specs.Runs.{Brought, Cancelled, Leads}
use Rattle.history.specs.Views.{Meaning, Opening}
use Rattle.book.specs.declared.state.Book.{Book}
use Rattle.book.specs.Shown.{view, stated, restored_exposure}

-- books that no reader can tell apart
pub record Alike (b b' : Book) : Type 0 where
  pub limit : (view b).limit ≡ (view b').limit
  pub rights : (view b).rights ≡ (view b').rights
  pub rows : (view b).rows ≡ (view b').rows
  pub exposure : stated b ≡ stated b'
  pub free : (p : PathHour) → free_of (view b).rights (view b).rows p ≡ free_of (view b').rights (view b').rows p
  pub batch : (view b).restores ≡ (view b').restores
  pub batch_exposure : restored_exposure b ≡ restored_exposure b'
  pub batch_free : (p : PathHour) → option_map (λ rs. free_of (view b).rights rs p) (view b).restores ≡ option_map (λ rs. free_of (view b').rights rs p) (view b').restores

-- The events of a history lead to this very book; and however the same calls are made from the same opening, they get
-- these answers, with all that they bring, and end in a book that is alike.
pub record ToldBy (o : Opening) (es : List Event) (b : Book) : Type 0 where
  pub leads : Leads o es (view b)
  pub answers : (es' : List Event) (b' : Book) → Leads o es' (view b') → map call es' ≡ map call es → es' ≡ es
  pub ends : (es' : List Event) (b' : Book) → Leads o es' (view b') → map call es' ≡ map call es → Alike b' b

-- the laws of a book to which a history leads
pub record Sound (o : Opening) (es : List Event) (b : Book) : Type 0 where
  -- rows, exposure and free tenths are those of what stands by the calls alone
  pub rows : (view b).rows ≡ standing o es
  pub exposure : stated b ≡ exposure_by o es
  pub free : (p : PathHour) → free_of (view b).rights (view b).rows p ≡ free_by o es p
  -- no right is overdrawn
  pub covered : (p : PathHour) → drawn p (standing o es) ≤ tenths_of o.rights p
  -- each accepted submission was covered by what stood just before it, and valued there
  pub brought : (later : List Event) (s : Submission) (m : Meaning) (a : Accepted) (before : List Event) →
      es ≡ later ++ (submitted s m (Ok a) ∷ before) → Brought o before s m a
  -- the limit is the last one set, and the exposure is not both above it and above the exposure right after it was set
  pub limit : (view b).limit ≡ limit_by o es
  pub held : limit_by o es <ℤ stated b → exposure_then o es <ℤ stated b → ⊥
  -- a cancelled batch leaves no trace: the history without it tells of the same book
  pub no_trace : (before rest : List Event) → Cancelled es before rest → ToldBy o (rest ++ before) b

-- one more call: whatever history led to the book, that history with the call leads on, and the book is sound
pub record Law (b : Book) (e : Event) (b' : Book) : Type 0 where
  pub leads_on : (o : Opening) (es : List Event) → Leads o es (view b) → Leads o (e ∷ es) (view b')
  pub sound : (o : Opening) (es : List Event) → Leads o es (view b) → Sound o (e ∷ es) b'
