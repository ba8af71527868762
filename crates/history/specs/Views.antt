-- What a reader of a book can know. Assumes nothing.
use Rattle.std.specs.Prelude.{ℕ, List, [], ℤ, None, Option, Result}
use Rattle.market.specs.declared.right.Right.{Right}
use Rattle.market.specs.declared.submission.Submission.{Submission}
use Rattle.exposure.specs.declared.fault.RuleFault.{RuleFault}
use Rattle.rights.specs.declared.row.Row.{Row}

-- what a rule means: from a submission and its covered tenths to grains or a fault
abbrev pub Meaning : Type 0
Meaning = Submission → ℕ → Result ℤ RuleFault

-- Rows are in order of acceptance. A book with an open batch restores the rows of before; a plain one, none.
pub record View : Type 0 where
  pub limit : ℤ
  pub rights : List Right
  pub rows : List Row
  pub restores : Option (List Row)

-- what a book is opened with
pub record Opening : Type 0 where
  pub limit : ℤ
  pub rights : List Right

-- a book just opened is plain and has no rows
abbrev pub start : Opening → View
start o = record { limit = o.limit; rights = o.rights; rows = []; restores = None }
