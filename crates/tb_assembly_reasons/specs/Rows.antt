-- What is said of a text that is refused.
use Rattle.std.specs.Prelude.{ℕ, Option, Some, None, List, [], ◌++◌, codes}
use Rattle.std.specs.List.{slice_get}
use Rattle.std.specs.Fmt.{decimal}
use Rattle.tb_asm.specs.Layout.{Entry}
use Rattle.tb_asm.specs.declared.errors.AsmError.{AsmError}
use Rattle.tb_asm.specs.declared.errors.AsmErrorKind.{AsmErrorKind}
use Rattle.tb_engine_check.specs.Rows.{caret_row, line_row}
use Rattle.tb_assembly_reasons.specs.Texts.{reason_text}
use Rattle.tb_assembly_reasons.specs.Errors.{error_text, letters_of}
use Rattle.tb_assembly_reasons.specs.Faults.{line_fault}
use Rattle.tb_assembly_reasons.specs.Lines.{items_in, line_at, place_of}
use Rattle.tb_assembly_reasons.specs.declared.lines.ItemPlace.{ItemPlace}
use Rattle.tb_assembly_reasons.specs.declared.reasons.LineFault.{LineFault}

-- `NAME:LINE:COLUMN: error: REASON`
abbrev pub fault_row : List ℕ → ℕ → LineFault → List ℕ
fault_row name n fault =
    name ++ (codes ":" ++ (decimal n ++ (codes ":" ++ (decimal fault.column ++ (codes ": error: " ++ (reason_text fault.reason ++ codes "\n"))))))

-- a line that is refused: why, the line, and a caret under its place
abbrev pub line_rows : List ℕ → ℕ → List ℕ → List ℕ
line_rows name n line =
    fault_row name n (line_fault line) ++ line_row (decimal n) line ++ caret_row (decimal n) (line_fault line).column

-- the letters of an item's label, if it is there
abbrev pub letters_at : Option Entry → List ℕ
letters_at None = []
letters_at (Some entry) = letters_of entry

-- `NAME:LINE: error: TEXT`
abbrev pub item_row : List ℕ → ℕ → AsmErrorKind → List ℕ → List ℕ
item_row name n kind letters = (name ++ (codes ":" ++ (decimal n ++ codes ": error: "))) ++ error_text kind letters ++ codes "\n"

-- an item of a line that is refused: why, and the line
abbrev pub rows_at : List ℕ → List ℕ → ItemPlace → AsmErrorKind → List ℕ
rows_at name line place kind =
    item_row name place.line kind (letters_at (slice_get (items_in line) place.index)) ++ line_row (decimal place.line) line

-- an item that is refused, by where it stands
abbrev pub rows_of : List ℕ → List (List ℕ) → AsmErrorKind → Option ItemPlace → List ℕ
rows_of name lines kind None = []
rows_of name lines kind (Some place) = rows_at name (line_at lines place.line) place kind

abbrev pub item_rows : List ℕ → List (List ℕ) → AsmError → List ℕ
item_rows name lines e = rows_of name lines e.kind (place_of 1 e.item lines)
