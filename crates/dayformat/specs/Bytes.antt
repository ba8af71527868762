-- The numbers that bytes write from a place on, the lowest byte first. Assumes nothing.
use Rattle.std.specs.Prelude.{ℕ, ◌+◌, ◌*◌, List, ℤ, slice_index}
use Rattle.std.proofs.Common.{to_z}
use Rattle.std.specs.Int.{w32, w64}

abbrev pub le2 : List ℕ → ℕ → ℕ
le2 bs i = slice_index bs i + slice_index bs (i + 1) * 256

abbrev pub le4 : List ℕ → ℕ → ℕ
le4 bs i = slice_index bs i + slice_index bs (i + 1) * 256 + slice_index bs (i + 2) * 65536 + slice_index bs (i + 3) * 16777216

abbrev pub le8 : List ℕ → ℕ → ℕ
le8 bs i = slice_index bs i + slice_index bs (i + 1) * 256 + slice_index bs (i + 2) * 65536 + slice_index bs (i + 3) * 16777216 + slice_index bs (i + 4) * 4294967296 + slice_index bs (i + 5) * 1099511627776 + slice_index bs (i + 6) * 281474976710656 + slice_index bs (i + 7) * 72057594037927936

-- the same as a signed number, in two's complement
abbrev pub le4_signed : List ℕ → ℕ → ℤ
le4_signed bs i = to_z w32 (le4 bs i)

abbrev pub le8_signed : List ℕ → ℕ → ℤ
le8_signed bs i = to_z w64 (le8 bs i)
