-- What is said of a file.
use Rattle.std.specs.Prelude.{ℕ, ◌-◌, Bool, true, false, List, [], ◌++◌, codes, flat_map, map, unwrap_or, Option, Some, None}
use Rattle.std.specs.List.{slice_get}
use Rattle.std.specs.Fmt.{decimal}
use Rattle.tb_parser.specs.declared.errors.SourceError.{SourceError}
use Rattle.tb_parser.specs.declared.errors.SourceErrorKind.TheVariants.{Empty as NothingLeft}
use Rattle.tb_engines.specs.Texts.{source_text, too_large_text, too_deep_text}
use Rattle.tb_engine_findings.specs.declared.warnings.LineWarning.{LineWarning}
use Rattle.tb_engine_findings.specs.declared.examination.BadLine.{BadLine}
use Rattle.tb_engine_findings.specs.declared.examination.Findings.{Findings}
use Rattle.tb_engine_findings.specs.declared.examination.Findings.TheVariants.{BadLines, Empty, Refused, Accepted}
use Rattle.tb_engine_findings.specs.declared.notes.Note.{Note}
use Rattle.tb_basic_text.specs.Lines.{lines_of_file}
use Rattle.tb_basic_options.specs.Options.{options_of}
use Rattle.tb_basic_options.specs.declared.options.BadWord.{BadWord}
use Rattle.tb_engine_check.specs.declared.reports.Source.{Source}
use Rattle.tb_engine_check.specs.declared.texts.TheConstants.{NO_OPTION}
use Rattle.tb_engine_check.specs.Rows.{caret_row, line_row}
use Rattle.tb_engine_check.specs.Texts.{note_text, warning_text}

-- the lines of a file of which something is said
abbrev pub lines_in : Source → List (List ℕ)
lines_in source = map (λ t. t.now) source.lines.now

-- a line of the file, counted from 1
abbrev pub line_at : List (List ℕ) → ℕ → List ℕ
line_at lines n = unwrap_or (slice_get lines (n - 1)) []

-- ── rows: NAME, LINE and COLUMN, and what is said ──
-- `NAME: TEXT`
abbrev pub file_row : List ℕ → List ℕ → List ℕ
file_row name said = name ++ (codes ": error: " ++ (said ++ codes "\n"))

-- `NAME:LINE`, what it is, and `TEXT`, with the line
abbrev pub rows_on : List ℕ → List (List ℕ) → ℕ → List ℕ → List ℕ → List ℕ
rows_on name lines line is said =
    name ++ (codes ":" ++ (decimal line ++ (is ++ (said ++ codes "\n")))) ++ line_row (decimal line) (line_at lines line)

-- `NAME:LINE: error: TEXT`, with the line
abbrev pub deep_rows : List ℕ → List (List ℕ) → ℕ → List ℕ
deep_rows name lines line = rows_on name lines line (codes ": error: ") too_deep_text

-- `NAME:LINE: warning: TEXT`, with the line
abbrev pub warning_rows : List ℕ → List (List ℕ) → LineWarning → List ℕ
warning_rows name lines w = rows_on name lines w.line (codes ": warning: ") (warning_text w.warning)

-- `NAME:LINE:COLUMN`, what it is, and `TEXT`
abbrev pub row_at : List ℕ → SourceError → List ℕ → List ℕ → List ℕ
row_at name e is said =
    name ++ (codes ":" ++ (decimal e.line ++ (codes ":" ++ (decimal e.column ++ (is ++ (said ++ codes "\n"))))))

-- `NAME:LINE:COLUMN: error: TEXT`
abbrev pub error_row : List ℕ → SourceError → List ℕ
error_row name e = row_at name e (codes ": error: ") (source_text e.kind)

-- `NAME:LINE:COLUMN: note: TEXT`
abbrev pub note_row : List ℕ → SourceError → Option Note → List ℕ
note_row name e None = []
note_row name e (Some note) = row_at name e (codes ": note: ") (note_text note)

-- the line of an error, and a caret under its column
abbrev pub place_rows : List (List ℕ) → SourceError → List ℕ
place_rows lines e = line_row (decimal e.line) (line_at lines e.line) ++ caret_row (decimal e.line) e.column

-- a bad line: its fault, the line with its place, and a note if there is one
abbrev pub bad_line_rows : List ℕ → List (List ℕ) → BadLine → List ℕ
bad_line_rows name lines bad = error_row name bad.error ++ place_rows lines bad.error ++ note_row name bad.error bad.note

-- a program that costs too much
abbrev pub too_large_row : List ℕ → Option ℕ → List ℕ
too_large_row name None = []
too_large_row name (Some cost) = file_row name (too_large_text cost)

-- that the memory holds a program which costs too much, if that is so
abbrev pub fits_row : List ℕ → Bool → List ℕ
fits_row name true = name ++ codes ": note: --fit compiles it\n"
fits_row name false = []

-- ── all that is said ──
abbrev pub report : List ℕ → List (List ℕ) → Findings → List ℕ
report name lines (BadLines bad) = flat_map (bad_line_rows name lines) bad.items
report name lines Empty = file_row name (source_text NothingLeft)
report name lines (Refused deep too_large) = flat_map (deep_rows name lines) deep.items ++ too_large_row name too_large
report name lines (Accepted warnings) = flat_map (warning_rows name lines) warnings.items

-- a word that is no option: its place, the line, and a caret under its column
abbrev pub bad_word_rows : List ℕ → List (List ℕ) → Option BadWord → List ℕ
bad_word_rows name lines None = []
bad_word_rows name lines (Some bad) =
    name ++ (codes ":" ++ (decimal bad.line ++ (codes ":" ++ (decimal bad.column ++ (codes ": error: " ++ (NO_OPTION.now ++ codes "\n"))))))
    ++ line_row (decimal bad.line) (line_at lines bad.line) ++ caret_row (decimal bad.line) bad.column

-- what is said of a source's lines: of a word that is no option, of what is found, and whether the memory holds it
abbrev pub told_in : List ℕ → List (List ℕ) → Option BadWord → Findings → Bool → List ℕ
told_in name lines bad found fits = bad_word_rows name lines bad ++ report name lines found ++ fits_row name fits

-- what is said of a source: of its own words, of what is found, and whether the memory holds it
abbrev pub told_of : List ℕ → List ℕ → Findings → Bool → List ℕ
told_of name source found fits = told_in name (lines_of_file source) (options_of source).bad found fits
