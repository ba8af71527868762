-- The calls of a file, to its end or to the place of what is no call. Assumes nothing.
use Rattle.std.specs.Prelude.{ℕ, zero, suc, ◌-◌, List, [], ◌∷◌, length, Some, None}
use Rattle.dayformat.specs.Filed.{Filed}
use Rattle.dayformat.specs.Calls.{first_call}

pub data Script : Type 0 where
  done : Script
  cut : ℕ → Script
  then : Filed → Script → Script

-- What is left of a file of so many bytes, with so many calls still allowed. A cut call, an unknown
-- letter or one call too many ends the script at its place from the start of the file.
unfoldable pub script : ℕ → ℕ → List ℕ → Script
script n size [] = done
script zero size (b ∷ bs) = cut (size - length (b ∷ bs))
script (suc n) size (b ∷ bs) = elim (first_call (b ∷ bs)) [ None ↦ cut (size - length (b ∷ bs)) | Some p ↦ then p.0 (script n size p.1) ]
