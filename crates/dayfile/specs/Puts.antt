-- Bytes written over others. Assumes nothing.
use Rattle.std.specs.Prelude.{◌≡◌, ℕ, ◌+◌, ◌≤◌, List, ◌++◌, length, take, drop, Some, None, Option}

-- xs with bs written over it from a place on
abbrev pub written : List ℕ → ℕ → List ℕ → List ℕ
written xs at bs = take at xs ++ (bs ++ drop (at + length bs) xs)

-- a text at the start, and what is past it as it was
abbrev pub over : List ℕ → List ℕ → List ℕ
over text before = text ++ drop (length text) before

-- bs are written over before from a place on, and end is the place after them
pub record Wrote (before : List ℕ) (at : ℕ) (bs : List ℕ) (end : ℕ) (now' : List ℕ) : Type 0 where
  pub place : end ≡ at + length bs
  pub after : now' ≡ written before at bs

-- the text is written at the start, and count is its length, at most 49,152
pub record Filled (text before : List ℕ) (count : ℕ) (now' : List ℕ) : Type 0 where
  pub length_is : count ≡ length text
  pub after : now' ≡ over text before
  pub fits : count ≤ 49152

-- the text is written, or it is another text and nothing is written
abbrev pub FilledOr : List ℕ → List ℕ → List ℕ → Option ℕ → List ℕ → Type 0
FilledOr other text before None now' = (text ≡ other) × (now' ≡ before)
FilledOr other text before (Some count) now' = Filled text before count now'
