-- The percentile that each letter stands for. Assumes nothing.
use Rattle.std.specs.Prelude.{ℕ, cond, Some, None, Option, ◌==◌}

-- a letter is its code: d 100, a 97, b 98, y 121, z 122, u 117, t 116
abbrev pub percent_of : ℕ → Option ℕ
percent_of letter =
    cond (letter == 100) (Some 85)
    (cond (letter == 97) (Some 50)
    (cond (letter == 98) (Some 45)
    (cond (letter == 121) (Some 45)
    (cond (letter == 122) (Some 50)
    (cond (letter == 117) (Some 90)
    (cond (letter == 116) (Some 50) None))))))
