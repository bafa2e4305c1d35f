-- The bad lines of a file.
use Rattle.std.specs.Prelude.{◌≡◌, ℕ, ◌+◌, List, [], ◌∷◌, Some, Ok, Err}
use Rattle.tb_basic_syntax.specs.Source.{Program}
use Rattle.tb_parser.specs.declared.errors.SourceError.{SourceError}
use Rattle.tb_parser.specs.Answers.{refusal_of}
use Rattle.tb_basic_text.specs.declared.notation.Notation.{Notation}
use Rattle.tb_parser.specs.Files.{LinesIn, at_end, refused_at}
use Rattle.tb_basic_text.specs.Lines.{lines_of_file}
use Rattle.tb_parser.specs.Readings.{Edit, LineIn, Refusal}

-- the bad ones of lines of which the first has the number n, each with its first fault
pub data BadLinesAre (notation : Notation) : ℕ → List (List ℕ) → List SourceError → Type 0 where
  none : (n : ℕ) → BadLinesAre notation n [] []
  good : (n : ℕ) (line : List ℕ) (lines : List (List ℕ)) (found : List SourceError) (edit : Edit)
      → LineIn notation line (Ok edit) → BadLinesAre notation (n + 1) lines found → BadLinesAre notation n (line ∷ lines) found
  bad : (line : List ℕ) (lines : List (List ℕ)) (found : List SourceError) (e : SourceError) (r : Refusal)
      → LineIn notation line (Err r) → refusal_of e.kind e.column ≡ Some r → BadLinesAre notation (e.line + 1) lines found
      → BadLinesAre notation e.line (line ∷ lines) (e ∷ found)

-- the first of the bad lines is the file's refusal; if there is none, the lines make a program, which may be empty
abbrev pub FirstIs : Notation → List ℕ → List SourceError → Type 0
FirstIs notation source [] = (p : Program) × LinesIn notation 1 [] (lines_of_file source) (at_end p)
FirstIs notation source (e ∷ found) = (r : Refusal) × (refusal_of e.kind e.column ≡ Some r) × LinesIn notation 1 [] (lines_of_file source) (Err (refused_at e.line r))
