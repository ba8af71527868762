-- What a book shows, and memory that holds nothing yet. Assumes nothing.
use Rattle.std.specs.Prelude.{◌≡◌, [], ℤ, Some, None, vec_items, Option}
use Rattle.history.specs.Views.{View}
use Rattle.book.specs.declared.batch.Batch.{Batch}
use Rattle.book.specs.declared.batch.Batch.TheVariants.{Plain, Open}
use Rattle.book.specs.declared.state.Book.{Book}
use Rattle.book.specs.declared.state.Room.{Room}

-- a plain book restores nothing
abbrev pub restored : {X : Type 0} → Batch → X → Option X
restored Plain x = None
restored Open x = Some x

abbrev pub view : Book → View
view b = record { limit = b.limit; rights = vec_items b.rights; rows = vec_items b.standing.rows; restores = restored b.batch (vec_items b.before.rows) }

-- the exposure that a book states, and the one that a cancel restores
abbrev pub stated : Book → ℤ
stated b = b.standing.total

abbrev pub restored_exposure : Book → Option ℤ
restored_exposure b = restored b.batch b.before.total

pub record Empty (room : Room) : Type 0 where
  pub rights : vec_items room.rights ≡ []
  pub rows : vec_items room.rows ≡ []
  pub before : vec_items room.before ≡ []
