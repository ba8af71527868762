-- What rows leave of some tenths, one row after another.
use Rattle.std.proofs.Common.{◌≡◌, ℕ, ◌-◌, List, [], ◌∷◌, ◌∙◌, arith}
use Rattle.std.specs.List.{fold}
use Rattle.market.specs.declared.right.PathHour.{PathHour}
use Rattle.rights.specs.declared.row.Row.{Row}
use Rattle.rights.specs.Covers.{draw, drawn}

pub left_over : (p : PathHour) (tenths : ℕ) (rs : List Row) → fold (λ left row. left - draw p row) tenths rs ≡ tenths - drawn p rs
left_over p tenths [] = omega arith
left_over p tenths (r ∷ rs) = left_over p (tenths - draw p r) rs ∙ omega arith
