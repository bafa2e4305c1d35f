-- Lines of a source, as the debugger shows them.
use Rattle.std.specs.Prelude.{ℕ, suc, ◌+◌, ◌-◌, ◌==◌, Bool, false, if◌then◌else◌}
use Rattle.std.specs.Prelude.{List, [], ◌∷◌, ◌++◌, codes, drop, flat_map, map, take, Option, Some, None}
use Rattle.tb_basic_source.specs.Lines.{last_of}
use Rattle.tb_basic_source.specs.ShownBytes.{shown}

-- the line of a number, as it is written; the lines are given with the numbers that they begin with, the last of a number counts
abbrev pub written : List (ℕ × List ℕ) → ℕ → List ℕ
written lines n = map shown (last_of [] n lines) ++ 10 ∷ []

-- how many lines are shown before a line, and after it
abbrev pub around : ℕ
around = 5

-- the index of a line among those of a program, counted from k; 0 if it isn't one
abbrev pub index_from : ℕ → List ℕ → ℕ → ℕ
index_from k [] n = 0
index_from k (m ∷ numbers) n = if m == n then k else index_from (suc k) numbers n

-- the index of a line that may be none among those of a program; 0 if it isn't one of them
abbrev pub index_of : List ℕ → Option ℕ → ℕ
index_of numbers (Some n) = index_from 0 numbers n
index_of numbers None = 0

-- the run is at a line
abbrev pub is_here : Option ℕ → ℕ → Bool
is_here (Some line) n = n == line
is_here None n = false

-- a line after `* ` if the run is at it, else after two spaces
abbrev pub marked : List (ℕ × List ℕ) → Option ℕ → ℕ → List ℕ
marked lines here n = (if is_here here n then codes "* " else codes "  ") ++ written lines n

-- the lines from five before the one at an index to five after it
abbrev pub near : List ℕ → ℕ → List ℕ
near numbers index = take (index - (index - around) + (around + 1)) (drop (index - around) numbers)

-- the lines around a line
abbrev pub list_text : List (ℕ × List ℕ) → List ℕ → Option ℕ → Option ℕ → List ℕ
list_text lines numbers line here = flat_map (marked lines here) (near numbers (index_of numbers line))
