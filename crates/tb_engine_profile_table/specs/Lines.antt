-- The statements of a source, as they were written.
use Rattle.std.specs.Prelude.{ℕ, List, [], map}
use Rattle.tb_basic_source.specs.Lines.{behind_number, last_of, numbered}
use Rattle.tb_engine_profile_table.specs.declared.rows.Row.{Row}
use Rattle.tb_engine_profile_table.specs.declared.lines.Line.{Line}

-- the rows of lines, each with the text after its number in the last of these lines that has it
abbrev pub stated_in : List (ℕ × List ℕ) → List Row → List (Row × List ℕ)
stated_in lines rows = map (λ r. (r, behind_number (last_of [] r.line lines))) rows

-- the rows of a source's lines, each with the text after its number in the last line of the source that has it
abbrev pub stated : List ℕ → List Row → List (Row × List ℕ)
stated source rows = stated_in (numbered source) rows

-- a line as a pair of its row and its statement
abbrev pub line_pair : Line → Row × List ℕ
line_pair l = (l.row, l.statement.now)
