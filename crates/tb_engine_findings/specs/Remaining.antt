-- Which lines of a file remain in its program.
use Rattle.std.specs.Prelude.{ℕ, not, ◌&&◌, if◌then◌else◌, List, [], ◌∷◌, ◌++◌, map}
use Rattle.tb_engine_findings.specs.Entries.{is_one_of}
use Rattle.tb_engine_findings.specs.declared.lines.NumberedLine.{NumberedLine}

-- a line, if its number is one of these and no line after it has it
abbrev pub remaining_here : List ℕ → NumberedLine → List NumberedLine → List ℕ
remaining_here numbers l ls = if is_one_of l.number numbers && not (is_one_of l.number (map (λ l. l.number) ls)) then l.line ∷ [] else []

-- all such lines, in the order of the file
abbrev pub remaining : List ℕ → List NumberedLine → List ℕ
remaining numbers [] = []
remaining numbers (l ∷ ls) = remaining_here numbers l ls ++ remaining numbers ls
