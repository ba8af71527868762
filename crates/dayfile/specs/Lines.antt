-- The lines in bytes. Assumes nothing.
use Rattle.std.specs.Prelude.{ℕ, List, [], ◌∷◌, ◌++◌, ℤ, decimal}
use Rattle.std.specs.Fmt.{signed_decimal}
use Rattle.dayformat.specs.Filed.{Filed, to_submit, to_withdraw, to_open_batch, to_keep_batch, to_cancel_batch, to_limit}

-- S, W, O, K, C and L
abbrev pub letter : Filed → ℕ
letter (to_submit figures steps) = 83
letter (to_withdraw number) = 87
letter to_open_batch = 79
letter to_keep_batch = 75
letter to_cancel_batch = 67
letter (to_limit limit) = 76

-- letter, number and exposure, one space between, and a newline
abbrev pub line : ℕ → ℕ → ℤ → List ℕ
line c n x = (c ∷ 32 ∷ []) ++ (decimal n ++ ((32 ∷ []) ++ (signed_decimal x ++ (10 ∷ []))))

-- "X 51", a space, the place where the calls end, and a newline
abbrev pub closing : ℕ → List ℕ
closing place = (88 ∷ 32 ∷ 53 ∷ 49 ∷ 32 ∷ []) ++ (decimal place ++ (10 ∷ []))
