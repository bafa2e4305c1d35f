-- The lines of a source by the numbers that they begin with.
use Rattle.std.specs.Prelude.{ℕ, ◌+◌, ◌-◌, ◌*◌, min, ◌||◌, List, [], ◌∷◌, map, ◌==◌, if◌then◌else◌}
use Rattle.tb_basic_text.specs.Lines.{lines_of_file}
use Rattle.tb_basic_source.specs.declared.lines.Numbered.{Numbered}
use Rattle.tb_basic_grammar.specs.Grammar.{is_digit}

-- a number with one more digit; numbers above 65,535 are all the same, since no line has one
abbrev pub longer : ℕ → ℕ → ℕ
longer n digit = min (n * 10 + digit) 65536

-- a number with the digits that a text begins with, spaces left out
abbrev pub number_with : ℕ → List ℕ → ℕ
number_with n [] = n
number_with n (b ∷ bytes) =
    if b == 32 then number_with n bytes
    else if is_digit b then number_with (longer n (b - 48)) bytes
    else n

-- the number that a line begins with; 0, which no line has, if it begins with none
abbrev pub number_of : List ℕ → ℕ
number_of line = number_with 0 line

-- what follows the number of a line
abbrev pub behind_number : List ℕ → List ℕ
behind_number [] = []
behind_number (b ∷ bytes) = if (b == 32) || is_digit b then behind_number bytes else b ∷ bytes

-- a line with its number
abbrev pub with_number : List ℕ → ℕ × List ℕ
with_number line = (number_of line, line)

-- the lines of a source, each with its number
abbrev pub numbered : List ℕ → List (ℕ × List ℕ)
numbered source = map with_number (lines_of_file source)

-- the text of the last of these lines that has a number
abbrev pub last_of : List ℕ → ℕ → List (ℕ × List ℕ) → List ℕ
last_of found n [] = found
last_of found n (line ∷ lines) = last_of (if line.0 == n then line.1 else found) n lines

-- a line as such a pair
abbrev pub pair_of : Numbered → ℕ × List ℕ
pair_of l = (l.number, l.text.now)
