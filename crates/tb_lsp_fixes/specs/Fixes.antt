-- What mends a finding.
use Rattle.std.specs.Prelude.{ℕ, ◌+◌, ◌-◌, min, nat_lt, Bool, true, false, ◌==◌, List, [], ◌∷◌, ◌++◌, codes, length, slice_get, Option, Some, None, if◌then◌else◌}
use Rattle.std.specs.Option.{option_and_then}
use Rattle.std.specs.Fmt.{decimal}
use Rattle.serde_json.specs.Data.{Data}
use Rattle.tb_basic_places.specs.Spans.{piece, word_span}
use Rattle.tb_engine_findings.specs.NearWords.{spelling_of}
use Rattle.tb_engine_findings.specs.declared.examination.BadLine.{BadLine}
use Rattle.tb_engine_findings.specs.declared.notes.Note.{Note}
use Rattle.tb_engine_findings.specs.declared.notes.Note.TheVariants.{ThenNumber, QuestionMark, Near, NearSign, OpenText, Tab, ByteOrderMark}
use Rattle.tb_engine_findings.specs.declared.warnings.LineWarning.{LineWarning}
use Rattle.tb_engine_findings.specs.declared.warnings.Warning.{Warning}
use Rattle.tb_engine_findings.specs.declared.warnings.Warning.TheVariants.{Replaced, TakenOut, RunsPast, EvenBound}
use Rattle.tb_basic_signs.specs.Names.{name_of}
use Rattle.tb_basic_source.specs.Lines.{numbered}
use Rattle.tb_lsp_diagnostics.specs.Diagnostics.{line_at}
use Rattle.tb_editor_values.specs.Edits.{edit_value, lines_edit}
use Rattle.tb_lsp_fixes.specs.Bounds.{better_bound}
use Rattle.tb_lsp_fixes.specs.Mends.{Mends}
use Rattle.tb_lsp_fixes.specs.Signs.{writes_sign}
use Rattle.tb_lsp_fixes.specs.Writing.{behind, fix_by, writes}
use Rattle.tb_basic_names.specs.declared.lines.Line.{Line as SourceLine}
use Rattle.tb_lsp_fixes.specs.declared.fixes.TheConstants.{ADD_A_LINE_WITH_END, CLOSE_THE_TEXT, REMOVE_THE_BYTE_ORDER_MARK, REMOVE_THE_LINE, WRITE_A_SPACE}
use Rattle.tb_lsp_fixes.specs.declared.fixes.TheConstants.{WRITE_PRINT, WRITE_THEN_GOTO}

-- PRINT in place of `?`, with a space where none stands and something follows
abbrev pub print_before : List ℕ → List ℕ
print_before [] = codes "PRINT"
print_before (b ∷ text) = if b == 32 then codes "PRINT" else codes "PRINT "

-- a word in place of the whole word at a column
abbrev pub writes_word : ℕ → List ℕ → ℕ → List ℕ → Option Mends
writes_word line text column word = writes (codes "Write " ++ word) (word_span line text column) word

-- what mends a line by a note at a column
abbrev pub fix_by_note : ℕ → List ℕ → ℕ → Note → Option Mends
fix_by_note line text column ThenNumber = writes WRITE_THEN_GOTO.now (piece line text (column - 1) 0) (codes "GOTO ")
fix_by_note line text column QuestionMark = writes WRITE_PRINT.now (piece line text (column - 1) 1) (print_before (behind (column - 1) text))
fix_by_note line text column (Near word) = writes_word line text column (spelling_of word)
fix_by_note line text column (NearSign byte) = option_and_then (writes_sign line text (column - 1)) (name_of byte)
fix_by_note line text column OpenText = writes CLOSE_THE_TEXT.now (piece line text (length text) 0) (34 ∷ [])
fix_by_note line text column Tab = writes WRITE_A_SPACE.now (piece line text (column - 1) 1) (codes " ")
fix_by_note line text column ByteOrderMark = writes REMOVE_THE_BYTE_ORDER_MARK.now (piece line text (column - 1) 3) []
fix_by_note line text column _ = None

-- what mends a bad line
abbrev pub fix_of_bad_line : List (List ℕ) → BadLine → Option Mends
fix_of_bad_line lines bad = option_and_then (fix_by_note bad.error.line (line_at lines bad.error.line) bad.error.column) bad.note

-- the number of the first of these lines
abbrev pub first_number : List (ℕ × List ℕ) → ℕ
first_number [] = 0
first_number (l ∷ ls) = l.0

-- the number that begins a line
abbrev pub number_of : List ℕ → ℕ
number_of text = first_number (numbered text)

-- a line with END, by its number: behind a text of so many lines that ends its last one, or behind that
abbrev pub end_edit : ℕ → List ℕ → Bool → ℕ → Data
end_edit count last true n = lines_edit count count (decimal n ++ (codes " END" ++ 10 ∷ []))
end_edit count last false n = edit_value (piece count last (length last) 0) (10 ∷ (decimal n ++ codes " END"))

-- a line with END behind a text, where a number is left above the highest one
abbrev pub ends : ℕ → List ℕ → Bool → ℕ → Option Mends
ends count last is_ended highest =
    if nat_lt highest 32767 then fix_by ADD_A_LINE_WITH_END.now (end_edit count last is_ended (min (highest + 10) 32767)) else None

-- a line is removed with its end
abbrev pub removes : ℕ → Option Mends
removes line = fix_by REMOVE_THE_LINE.now (lines_edit (line - 1) line [])

-- what mends what a warning on a line tells
abbrev pub fix_by_warning : List (List ℕ) → List SourceLine → Bool → ℕ → Warning → Option Mends
fix_by_warning lines all is_ended line (Replaced number by) = removes line
fix_by_warning lines all is_ended line (TakenOut number by) = removes line
fix_by_warning lines all is_ended line RunsPast = ends (length lines) (line_at lines (length lines)) is_ended (number_of (line_at lines line))
fix_by_warning lines all is_ended line (EvenBound bound) = better_bound line (slice_get all (line - 1)) bound
fix_by_warning lines all is_ended line _ = None

-- what mends what a warning tells
abbrev pub fix_of_warning : List (List ℕ) → List SourceLine → Bool → LineWarning → Option Mends
fix_of_warning lines all is_ended w = fix_by_warning lines all is_ended w.line w.warning
