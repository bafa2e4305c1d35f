-- What is said of the line for which a source is refused.
use Rattle.std.specs.Prelude.{ℕ, ◌≡◌, ◌-◌, ◌==◌, Bool, false, List, [], ◌∷◌, flat_map, Option, Some, None, if◌then◌else◌}
use Rattle.std.specs.List.{slice_get}
use Rattle.tb_basic_text.specs.Lines.{lines_of_file}
use Rattle.tb_parser.specs.declared.errors.SourceError.{SourceError}
use Rattle.tb_basic_source.specs.Lines.{numbered}
use Rattle.tb_basic_meaning.specs.declared.needs.LowerError.{LowerError}
use Rattle.tb_basic_meaning.specs.declared.needs.LowerError.TheVariants as lower
use Rattle.tb_compiled_errors.specs.declared.refusals.CompileError.{CompileError}
use Rattle.tb_compiled_errors.specs.declared.refusals.CompileError.TheVariants as compile
use Rattle.tb_engine_findings.specs.Settings.{by_cost}
use Rattle.tb_basic_text.specs.declared.notation.Notation.{Notation}
use Rattle.tb_engine_findings.specs.Findings.{AreFindings}
use Rattle.tb_engine_findings.specs.declared.examination.BadLine.{BadLine}
use Rattle.tb_engine_findings.specs.declared.examination.Findings.{Findings}
use Rattle.tb_engine_findings.specs.declared.examination.Findings.TheVariants.{BadLines, Empty, Refused, Accepted}
use Rattle.tb_engine_check.specs.Reports.{bad_line_rows, deep_rows}
use Rattle.tb_compiled.specs.Promise.{Own}

-- a line that was found has a number
abbrev pub has_number : ℕ → Option (ℕ × List ℕ) → Bool
has_number n (Some line) = line.0 == n
has_number n None = false

-- a line of the file, counted from 1, begins with a number
abbrev pub is_numbered : List (ℕ × List ℕ) → ℕ → ℕ → Bool
is_numbered lines n line = has_number n (slice_get lines (line - 1))

-- the first bad line, if it is the one that is refused
abbrev pub first_rows : List ℕ → List (List ℕ) → SourceError → List BadLine → List ℕ
first_rows name lines e [] = []
first_rows name lines e (bad ∷ others) = if bad.error.line == e.line then bad_line_rows name lines bad else []

abbrev pub source_rows : List ℕ → List (List ℕ) → SourceError → Findings → List ℕ
source_rows name lines e (BadLines bad) = first_rows name lines e bad.items
source_rows name lines e Empty = []
source_rows name lines e (Refused deep too_large) = []
source_rows name lines e (Accepted warnings) = []

-- a line that is too deep, if it has the number that is refused
abbrev pub deep_rows_of : List ℕ → List (List ℕ) → List (ℕ × List ℕ) → ℕ → ℕ → List ℕ
deep_rows_of name lines numbered n line = if is_numbered numbered n line then deep_rows name lines line else []

abbrev pub program_rows : List ℕ → List (List ℕ) → List (ℕ × List ℕ) → ℕ → Findings → List ℕ
program_rows name lines numbered n (Refused deep too_large) = flat_map (deep_rows_of name lines numbered n) deep.items
program_rows name lines numbered n (BadLines bad) = []
program_rows name lines numbered n Empty = []
program_rows name lines numbered n (Accepted warnings) = []

-- what is said of the line for which a source is refused: of a bad line, of a line that is too deep, or of none
abbrev pub refusal_rows : List ℕ → List (List ℕ) → List (ℕ × List ℕ) → CompileError → Findings → List ℕ
refusal_rows name lines numbered (compile.Source e) found = source_rows name lines e found
refusal_rows name lines numbered (compile.Lower (lower.TooDeep n)) found = program_rows name lines numbered n found
refusal_rows name lines numbered (compile.Lower lower.NoMemory) found = []
refusal_rows name lines numbered (compile.TooLarge n) found = []
refusal_rows name lines numbered compile.NoMemory found = []

-- a text is what is said of the line for which a source is refused, by what is found in the source
pub record TellsRefusal (own : Own) (notation : Notation) (name source : List ℕ) (e : CompileError) (text : List ℕ) : Type 0 where
  pub found : Findings
  pub are : AreFindings own (by_cost notation) source found
  pub says : text ≡ refusal_rows name (lines_of_file source) (numbered source) e found
