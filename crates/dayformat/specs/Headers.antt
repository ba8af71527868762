-- The header of a file. Assumes nothing.
use Rattle.std.specs.Prelude.{ℕ, ◌+◌, ◌*◌, Bool, cond, ◌&&◌, List, map, length, take, drop, ℤ, Some, None, Option, ◌==◌, nat_le, slice_index}
use Rattle.std.specs.Borrow.{Bor}
use Rattle.std.specs.Simd.{first_chunks}
use Rattle.market.specs.declared.right.Right.{Right}
use Rattle.dayformat.specs.declared.header.Header.{Header}
use Rattle.dayformat.specs.declared.header.LentHeader.{LentHeader}
use Rattle.dayformat.specs.Bytes.{le2, le4, le8_signed}
use Rattle.dayformat.specs.Valuations.{Valued, valued_by, meant, lent}

-- the mark DCB and version 1
abbrev pub marked : List ℕ → Bool
marked bs = slice_index bs 0 == 68 && (slice_index bs 1 == 67 && (slice_index bs 2 == 66 && (slice_index bs 3 == 1 && slice_index bs 4 == 0)))

-- behind the mark and the version eight bytes of limit, two that count the rights, and what follows
abbrev pub opened : List ℕ → Option (ℤ × ℕ × List ℕ)
opened bs = cond (nat_le 15 (length bs) && marked bs) (Some (le8_signed bs 5, le2 bs 13, drop 15 bs)) None

-- source, sink, hour and tenths
abbrev pub right_of : List ℕ → Right
right_of bs = record { path = record { source = le2 bs 0; sink = le2 bs 2; hour = slice_index bs 4 }; tenths = le4 bs 5 }

-- so many rights from byte 15 on, each nine bytes past the one before
abbrev pub rights_of : List ℕ → ℕ → List Right
rights_of bs n = map right_of (first_chunks 9 n (take (9 * n) (drop 15 bs)))

-- the calls are the rest of the file
pub record Head : Type 0 where
  pub limit : ℤ
  pub rights : List Right
  pub valued : Valued
  pub calls : List ℕ

-- at most 65,536 bytes, with the mark, the version and at most 200 rights
abbrev pub headed : List ℕ → Bool
headed bs = nat_le (length bs) 65536 && ((nat_le 15 (length bs) && marked bs) && nat_le (le2 bs 13) 200)

-- the calls follow what the rule byte brings
abbrev pub head_by : List ℕ → Option (Valued × List ℕ) → Option Head
head_by bs None = None
head_by bs (Some p) = Some (record { limit = le8_signed bs 5; rights = rights_of bs (le2 bs 13); valued = p.0; calls = p.1 })

-- the byte that names the rule stands behind the rights, whose count is in bytes 13 and 14
unfoldable pub header : List ℕ → Option Head
header bs = cond (headed bs) (head_by bs (valued_by (drop (15 + 9 * le2 bs 13) bs))) None

-- what an opening and a header of the code stand for
abbrev pub opened_of : ℤ × ℕ × Bor (List ℕ) → ℤ × ℕ × List ℕ
opened_of p = (p.0, p.1, p.2.now)

abbrev pub lent_head : LentHeader → Head
lent_head h = record { limit = h.limit; rights = map right_of h.rights.bytes.now; valued = lent h.valuation; calls = h.calls.now }

-- by its places in the file
abbrev pub head_of : List ℕ → Header → Head
head_of file h = record { limit = h.limit; rights = take h.count h.rights; valued = meant file h.valuation; calls = drop h.length file }
