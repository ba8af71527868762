-- What opening a book answers and leaves. Assumes nothing.
use Rattle.std.specs.Prelude.{◌≡◌, List, [], ℤ, Some, None, Ok, Err, Result}
use Rattle.market.specs.declared.right.Right.{Right}
use Rattle.history.specs.Answers.{opening_fault}
use Rattle.history.specs.Runs.{Leads}
use Rattle.history.specs.Views.{Opening, start}
use Rattle.book.specs.declared.opening.Unopened.{Unopened}
use Rattle.book.specs.declared.state.Book.{Book}
use Rattle.book.specs.declared.state.Room.{Room}
use Rattle.book.specs.Laws.{Sound}
use Rattle.book.specs.Shown.{view}

abbrev pub opening : ℤ → List Right → Opening
opening limit rights = record { limit = limit; rights = rights }

-- a book at its start where nothing is amiss; else the first refusal, and the memory as it was
abbrev pub Opened : Room → Opening → Result Book Unopened → Type 0
Opened room o (Ok b) = (opening_fault o ≡ None) × (view b ≡ start o)
Opened room o (Err u) = (opening_fault o ≡ Some u.refusal) × (u.room ≡ room)

-- the empty history leads to a book just opened, and it is sound
pub record Begins (o : Opening) (b : Book) : Type 0 where
  pub leads : Leads o [] (view b)
  pub sound : Sound o [] b
