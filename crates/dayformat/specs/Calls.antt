-- The call that bytes open with, by its letter. Assumes nothing.
use Rattle.std.specs.Prelude.{ℕ, ◌+◌, ◌*◌, cond, List, length, take, drop, Some, None, Option, ◌==◌, nat_le, slice_index}
use Rattle.market.specs.declared.kind.Figures.{Figures}
use Rattle.dayformat.specs.Bytes.{le2, le4, le8_signed}
use Rattle.dayformat.specs.Steps.{steps_of}
use Rattle.dayformat.specs.Filed.{Filed, to_submit, to_withdraw, to_open_batch, to_keep_batch, to_cancel_batch, to_limit}

-- a call of so many bytes, and what follows it; nothing where it is cut
abbrev pub sized : ℕ → List ℕ → Filed → Option (Filed × List ℕ)
sized n bs k = cond (nat_le n (length bs)) (Some (k, drop n bs)) None

-- the figures behind the letter S
abbrev pub figures_of : List ℕ → Figures
figures_of bs = record {
  number = le4 bs 1;
  qse = slice_index bs 5;
  kind = slice_index bs 6;
  hour = slice_index bs 7;
  source = le2 bs 8;
  sink = le2 bs 10;
  claim = slice_index bs 12;
}

-- fourteen bytes, the last of which counts the steps; eight bytes a step follow
abbrev pub submit_of : List ℕ → Option (Filed × List ℕ)
submit_of bs =
    cond (nat_le 14 (length bs))
    (sized (14 + 8 * slice_index bs 13) bs (to_submit (figures_of bs) (steps_of (take (8 * slice_index bs 13) (drop 14 bs)) (slice_index bs 13)))) None

-- S, W, O, K, C and L
abbrev pub by_letter : ℕ → List ℕ → Option (Filed × List ℕ)
by_letter b bs =
    cond (b == 83) (submit_of bs)
    (cond (b == 87) (sized 5 bs (to_withdraw (le4 bs 1)))
    (cond (b == 79) (sized 1 bs to_open_batch)
    (cond (b == 75) (sized 1 bs to_keep_batch)
    (cond (b == 67) (sized 1 bs to_cancel_batch)
    (cond (b == 76) (sized 9 bs (to_limit (le8_signed bs 1))) None)))))

unfoldable pub first_call : List ℕ → Option (Filed × List ℕ)
first_call bs = by_letter (slice_index bs 0) bs
