-- A program with other line numbers, as a tree.
use Rattle.std.specs.Prelude.{ℕ, ◌+◌, Bool, true, ◌&&◌, List, [], ◌∷◌, map, Option, Some, None, if◌then◌else◌, nat_eq, nat_le}
use Rattle.tb_basic_syntax.specs.Source.{Expression, Number, Statement, If, Goto, Gosub, Numbered, Program, numbers}
use Rattle.tb_basic_meaning.specs.Values.{constant}

-- the new number of a line: these lines get `first`, then each a step more; a number of no line stays
abbrev pub new_number : (first step : ℕ) → List ℕ → ℕ → ℕ
new_number first step [] n = n
new_number first step (m ∷ ms) n = if nat_eq m n then first else new_number (first + step) step ms n

-- whether none of these lines gets a number above the highest
abbrev pub are_low : (first step : ℕ) → List ℕ → Bool
are_low first step [] = true
are_low first step (m ∷ ms) = nat_le first 32767 && are_low (first + step) step ms

-- a jump's target: the new number of the line that it goes to, if it is constant
abbrev pub target_by : (ℕ → ℕ) → Expression → Option ℕ → Expression
target_by f e (Some target) = Number (f target)
target_by f e None = e

-- a jump's target by its expression: the new number of the line that it goes to, if the expression is constant
abbrev pub moved_target : (ℕ → ℕ) → Expression → Expression
moved_target f e = target_by f e (constant e)

-- a statement whose jump goes to the line's new number
abbrev pub moved : (ℕ → ℕ) → Statement → Statement
moved f (If l rel r c) = If l rel r (moved f c)
moved f (Goto e) = Goto (moved_target f e)
moved f (Gosub e) = Gosub (moved_target f e)
moved f c = c

-- a line with its new number
abbrev pub moved_line : (ℕ → ℕ) → Numbered Statement → Numbered Statement
moved_line f line = record { number = f line.number; content = moved f line.content }

-- a program with its line numbers put through a map
abbrev pub put_through : (ℕ → ℕ) → Program → Program
put_through f program = map (moved_line f) program

-- a program renumbered
abbrev pub renumbered : (first step : ℕ) → Program → Program
renumbered first step program = put_through (new_number first step (numbers program)) program
