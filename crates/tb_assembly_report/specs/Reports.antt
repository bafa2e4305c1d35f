-- What there is to say of a text.
use Rattle.std.specs.Prelude.{ℕ, ◌+◌, ◌-◌, Bool, Option, Some, None, unwrap_or, List, [], ◌∷◌, ◌++◌, map, codes, nat_lt}
use Rattle.std.specs.List.{slice_get}
use Rattle.std.specs.Fmt.{decimal}
use Rattle.tb_basic_text.specs.Lines.{lines_of_file}
use Rattle.tb_engine_check.specs.Rows.{caret_row, line_row}
use Rattle.tb_assembly_files.specs.declared.faults.Place.{Place}
use Rattle.tb_assembly_files.specs.Libraries.{Source, path_at}
use Rattle.tb_assembly_report.specs.declared.causes.Finding.{Finding}
use Rattle.tb_assembly_report.specs.Numbers.{NOTED}
use Rattle.tb_assembly_report.specs.declared.reports.FileLines.{FileLines}
use Rattle.tb_assembly_report.specs.Causes.{cause_text}
use Rattle.tb_assembly_report.specs.Notes.{note_if}

-- the lines of a text, none of one that could not be read
abbrev pub lines_in : Option (List ℕ) → List (List ℕ)
lines_in None = []
lines_in (Some text) = lines_of_file text

-- the lines of each file
abbrev pub all_lines : List Source → List (List (List ℕ))
all_lines lib = map (λ s. lines_in s.text) lib

-- lines of the code as contracts see them
abbrev pub lines_of : FileLines → List (List ℕ)
lines_of f = map (λ l. l.now) f.lines.items

-- a line by its place
abbrev pub line_at : List (List (List ℕ)) → Place → List ℕ
line_at all place = unwrap_or (slice_get (unwrap_or (slice_get all place.file) []) (place.line - 1)) []

-- `FILE:LINE:COLUMN`, what it is, and what is said
abbrev pub row_at : List ℕ → Place → ℕ → List ℕ → List ℕ → List ℕ
row_at path place column is said =
    path ++ (codes ":" ++ (decimal place.line ++ (codes ":" ++ (decimal column ++ (is ++ (said ++ codes "\n"))))))

-- a note under an error, if there is one
abbrev pub note_row : List ℕ → Place → ℕ → Option (List ℕ) → List ℕ
note_row path place column None = []
note_row path place column (Some said) = row_at path place column (codes ": note: ") said

-- what is wrong, the line with its place, and a note
abbrev pub rows : List ℕ → List ℕ → List (List ℕ) → Bool → Finding → List ℕ
rows path line names wanted f =
    row_at path f.place f.column (codes ": error: ") (cause_text f.cause)
    ++ (line_row (decimal f.place.line) line ++ caret_row (decimal f.place.line) f.column)
    ++ note_row path f.place f.column (note_if wanted names line f.column f.cause)

-- all that is wrong, of which this is the i-th; the first ones have notes
abbrev pub rows_from : ℕ → List Source → List (List ℕ) → List Finding → List ℕ
rows_from i lib names [] = []
rows_from i lib names (f ∷ fs) =
    rows (path_at lib f.place.file) (line_at (all_lines lib) f.place) names (nat_lt i NOTED) f ++ rows_from (i + 1) lib names fs

-- what there is to say of a text, by all that is wrong with it and the names that it has
abbrev pub report : List Source → List (List ℕ) → List Finding → List ℕ
report lib names fs = rows_from 0 lib names fs
