-- An event is a call with its answer, and what it leaves of a view. Assumes nothing.
use Rattle.std.specs.Prelude.{ℕ, List, [], ◌∷◌, ◌++◌, ℤ, Some, None, Ok, Err, Result}
use Rattle.std.specs.Option.{unwrap_or}
use Rattle.market.specs.declared.submission.Submission.{Submission}
use Rattle.rights.specs.declared.row.Row.{Row}
use Rattle.history.specs.declared.accepted.Accepted.{Accepted}
use Rattle.history.specs.declared.batch.BatchCall.{BatchCall}
use Rattle.history.specs.declared.batch.BatchCall.TheVariants.{Open, Keep, Cancel}
use Rattle.history.specs.declared.refusal.Refusal.{Refusal}
use Rattle.history.specs.Rows.{without}
use Rattle.history.specs.Views.{Meaning, View}

-- a submission comes with the meaning that its rule had at the call
pub data Event : Type 0 where
  submitted : Submission → Meaning → Result Accepted Refusal → Event
  withdrew : ℕ → Result ℤ Refusal → Event
  batched : BatchCall → Result (Unit {0}) Refusal → Event
  limited : ℤ → Result (Unit {0}) Refusal → Event

-- a view with other rows
abbrev pub with_rows : View → List Row → View
with_rows v rs = record { limit = v.limit; rights = v.rights; rows = rs; restores = v.restores }

-- open-batch saves the rows, keep-batch lets the saved ones go, and cancel-batch restores them
abbrev pub turned : View → BatchCall → View
turned v Open = record { limit = v.limit; rights = v.rights; rows = v.rows; restores = Some v.rows }
turned v Keep = record { limit = v.limit; rights = v.rights; rows = v.rows; restores = None }
turned v Cancel = record { limit = v.limit; rights = v.rights; rows = unwrap_or v.restores v.rows; restores = None }

-- a refusal leaves all as it was
abbrev pub after : View → Event → View
after v (submitted s m (Ok a)) = with_rows v (v.rows ++ (record { submission = s; exposure = a.exposure; cover = a.cover } ∷ []))
after v (submitted s m (Err f)) = v
after v (withdrew n (Ok x)) = with_rows v (without n v.rows)
after v (withdrew n (Err f)) = v
after v (batched c (Ok u)) = turned v c
after v (batched c (Err f)) = v
after v (limited l (Ok u)) = record { limit = l; rights = v.rights; rows = v.rows; restores = v.restores }
after v (limited l (Err f)) = v
