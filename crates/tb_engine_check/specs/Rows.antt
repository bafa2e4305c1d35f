-- The rows that show a line of a source, and a place in it.
use Rattle.std.specs.Prelude.{ℕ, ◌-◌, max, List, [], ◌∷◌, ◌++◌, length, map, take, replicate, nat_lt, ◌||◌, ◌==◌, if◌then◌else◌}
use Rattle.tb_basic_source.specs.ShownBytes.{shown}

-- a space, a bar, a space
abbrev pub bar : List ℕ
bar = 32 ∷ 124 ∷ 32 ∷ []

-- the first 120 bytes of a line, after its number at the right of five columns
abbrev pub line_row : List ℕ → List ℕ → List ℕ
line_row number line = replicate (5 - length number) 32 ++ number ++ bar ++ map shown (take 120 line) ++ 10 ∷ []

-- a caret under a column of it, counted from 1, if it is one of the first 121
abbrev pub caret_row : List ℕ → ℕ → List ℕ
caret_row number column =
    if (column == 0) || nat_lt 121 column then []
    else replicate (max 5 (length number)) 32 ++ bar ++ replicate (column - 1) 32 ++ 94 ∷ 10 ∷ []
