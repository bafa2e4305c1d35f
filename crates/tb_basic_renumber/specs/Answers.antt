-- What is answered when a source is renumbered.
use Rattle.std.specs.Prelude.{◌≡◌, ℕ, List, [], true, false, Option, Some, None, Result, Ok, Err, IfSome}
use Rattle.std.specs.declared.vec.Vec.{Vec}
use Rattle.std.specs.declared.alloc.Global.{Global}
use Rattle.tb_basic_syntax.specs.Source.{Program, numbers}
use Rattle.tb_parser.specs.declared.errors.SourceError.{SourceError}
use Rattle.tb_parser.specs.declared.errors.SourceErrorKind.{SourceErrorKind}
use Rattle.tb_parser.specs.declared.errors.SourceErrorKind.TheVariants as kind
use Rattle.tb_parser.specs.Answers.{refusal_of}
use Rattle.tb_basic_text.specs.declared.notation.Notation.{Notation}
use Rattle.tb_parser.specs.Files.{LinesIn, refused_at}
use Rattle.tb_basic_text.specs.Lines.{lines_of_file}
use Rattle.tb_basic_renumber.specs.Jumps.{first_fault}
use Rattle.tb_basic_renumber.specs.Renumbered.{are_low, new_number, renumbered}
use Rattle.tb_basic_renumber.specs.Runs.{RunAlike}
use Rattle.tb_basic_names.specs.Sources.{AreLinesOf}
use Rattle.tb_basic_names.specs.declared.lines.Line.{Line as SourceLine}
use Rattle.tb_basic_renumber.specs.Texts.{first_long, new_text}
use Rattle.tb_basic_renumber.specs.declared.refusals.Refusal.{Refusal}
use Rattle.tb_basic_renumber.specs.declared.refusals.Refusal.TheVariants.{Source, Jump, AboveHighest, LineTooLong, Other, NoMemory}

-- why a source is refused as the parser says it
abbrev pub by_kind : SourceErrorKind → SourceError → Refusal
by_kind kind.NoMemory e = NoMemory
by_kind _ e = Source e

abbrev pub of_source : SourceError → Refusal
of_source e = by_kind e.kind e

-- what the lines of a text make in a notation is this program
abbrev pub IsProgramIn : Notation → List ℕ → Program → Type 0
IsProgramIn notation text program = LinesIn notation 1 [] (lines_of_file text) (Ok program)

-- each jump goes to a line by a constant, and no line gets a number above the highest
abbrev pub IsMovable : (first step : ℕ) → Program → Type 0
IsMovable first step program = (first_fault (numbers program) program ≡ None) × (are_low first step (numbers program) ≡ true)

-- why a program can't be renumbered: its lowest line with another jump, else the numbers
abbrev pub Refuses : (first step : ℕ) → Program → Refusal → Type 0
Refuses first step program (Jump n fault) = first_fault (numbers program) program ≡ Some (n, fault)
Refuses first step program AboveHighest = (first_fault (numbers program) program ≡ None) × (are_low first step (numbers program) ≡ false)
Refuses first step program _ = ⊥

-- a refusal by a line that is too long, the first one in the file's order; or want of memory
abbrev pub IsLong : Option ℕ → Refusal → Type 0
IsLong found (LineTooLong n) = found ≡ Some n
IsLong found NoMemory = Unit {0}
IsLong found _ = ⊥

-- a refusal by reading the new text again, which was to be a program: it is another one, or none; or want of memory
abbrev pub IsOther : Notation → List ℕ → Program → Refusal → Type 0
IsOther notation text program Other = ¬ (IsProgramIn notation text program)
IsOther notation text program NoMemory = Unit {0}
IsOther notation text program _ = ⊥

-- why a new text is refused that doesn't read: want of memory is no fault of the text
abbrev pub of_text : SourceErrorKind → Refusal
of_text kind.NoMemory = NoMemory
of_text _ = Other

-- The answer for a program whose source has these lines: its new text, no line of which is too long, and which reads as
-- the program renumbered, which has the program's runs; or why there is none. That the new text reads as another
-- program, or as none, is told only where it does.
abbrev pub RenumbersLines : Notation → (first step : ℕ) → List ℕ → List SourceLine → Program → Result (Vec ℕ Global) Refusal → Type 0
RenumbersLines notation first step source lines program (Ok text) =
    IsMovable first step program × (text.items ≡ new_text (new_number first step (numbers program)) lines source)
    × (first_long (new_number first step (numbers program)) lines ≡ None)
    × IsProgramIn notation text.items (renumbered first step program) × RunAlike (new_number first step (numbers program)) program (renumbered first step program)
RenumbersLines notation first step source lines program (Err (Source e)) = ⊥
RenumbersLines notation first step source lines program (Err (Jump n fault)) = Refuses first step program (Jump n fault)
RenumbersLines notation first step source lines program (Err AboveHighest) = Refuses first step program AboveHighest
RenumbersLines notation first step source lines program (Err (LineTooLong n)) =
    IsMovable first step program × (first_long (new_number first step (numbers program)) lines ≡ Some n)
RenumbersLines notation first step source lines program (Err Other) =
    IsMovable first step program × (first_long (new_number first step (numbers program)) lines ≡ None)
    × ¬ (IsProgramIn notation (new_text (new_number first step (numbers program)) lines source) (renumbered first step program))
RenumbersLines notation first step source lines program (Err NoMemory) = Unit {0}

-- the answer for a program, by lines that its source has: the program renumbered, or why there is none
abbrev pub RenumbersProgram : Notation → (first step : ℕ) → List ℕ → Program → Result (Vec ℕ Global) Refusal → Type 0
RenumbersProgram notation first step source program result =
    (lines : List SourceLine) × AreLinesOf notation source lines × RenumbersLines notation first step source lines program result

-- the answer for a source: the parser's refusal, or that for its program
abbrev pub Renumbers : Notation → (first step : ℕ) → List ℕ → Result (Vec ℕ Global) Refusal → Type 0
Renumbers notation first step source (Err (Source e)) = IfSome (refusal_of e.kind e.column) (λ r. LinesIn notation 1 [] (lines_of_file source) (Err (refused_at e.line r)))
Renumbers notation first step source (Err NoMemory) = Unit {0}
Renumbers notation first step source result = (program : Program) × IsProgramIn notation source program × RenumbersProgram notation first step source program result
