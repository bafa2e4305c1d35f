-- What becomes of a source, with all the reasons.
use Rattle.std.specs.Prelude.{◌≡◌, ◌≢◌, ℕ, ◌+◌, ◌≤◌, nat_le, List, [], ◌∷◌, map, Option, Some, None, Ok, if◌then◌else◌}
use Rattle.tb_basic_syntax.specs.Source.{Program}
use Rattle.tb_basic_syntax.specs.PlainData.{lines_of}
use Rattle.tb_basic_syntax.specs.declared.statements.Statement.{Statement}
use Rattle.tb_basic_meaning.specs.Need.{statement_need}
use Rattle.tb_parser.specs.declared.errors.SourceError.{SourceError}
use Rattle.tb_parser.specs.Files.{at_end}
use Rattle.tb_basic_text.specs.declared.notation.Notation.{Notation}
use Rattle.tb_basic_text.specs.Lines.{lines_of_file}
use Rattle.tb_memmap.specs.Regions.{CODE_START}
use Rattle.tb_compiled.specs.Answers.{SourceMakes}
use Rattle.tb_compiled.specs.Promise.{Own}
use Rattle.tb_compiled.specs.Refusals.{IsExcess, TakesTooMuch}
use Rattle.tb_compiled.specs.declared.settings.SizeLimit.{SizeLimit}
use Rattle.tb_compiled.specs.declared.settings.SizeLimit.TheVariants.{Cost, Memory}
use Rattle.tb_engine_findings.specs.BadLines.{BadLinesAre, FirstIs}
use Rattle.tb_engine_findings.specs.declared.settings.CheckSettings.{CheckSettings}
use Rattle.tb_engine_findings.specs.declared.judging.ProgramFaults.{ProgramFaults}
use Rattle.tb_engine_findings.specs.declared.judging.Verdict.{Verdict}
use Rattle.tb_engine_findings.specs.declared.judging.Verdict.TheVariants.{BadLines, Empty, Refused, Accepted}

-- the lines that need more than 16 slots
abbrev pub deep_lines : Program → List ℕ
deep_lines [] = []
deep_lines (line ∷ lines) = if nat_le (statement_need line.content) 16 then deep_lines lines else line.number ∷ deep_lines lines

-- Whether a program is too large, and the number that tells it. A program with a line that is too deep has no code, so
-- nothing is told of what it takes.
abbrev pub TellsSize : Own → SizeLimit → Program → Option ℕ → Type 0
TellsSize own Cost program found = IsExcess Cost program found
TellsSize own Memory program (Some n) = (deep_lines program ≡ []) × TakesTooMuch own program n
TellsSize own Memory program None = deep_lines program ≡ [] → CODE_START + own.takes program ≤ 0xA000

-- what is told of the size of the program that the lines of a source make
abbrev pub TellsSizeOf : Own → Notation → SizeLimit → List ℕ → Option ℕ → Type 0
TellsSizeOf own notation size source found = (program : Program) → SourceMakes notation source (Ok program) → TellsSize own size program found

-- the lines of a source make a program without a line that is too deep
pub record MakesShallow (notation : Notation) (source : List ℕ) : Type 0 where
  pub program : Program
  pub made : SourceMakes notation source (Ok program)
  pub shallow : deep_lines program ≡ []

-- what is wrong with a program: all of it
pub record HasFaults (own : Own) (size : SizeLimit) (program : Program) (f : ProgramFaults) : Type 0 where
  pub deep : f.deep.items ≡ deep_lines program
  pub large : TellsSize own size program f.too_large

-- nothing is wrong with a program
pub record IsGood (own : Own) (size : SizeLimit) (program : Program) : Type 0 where
  pub shallow : deep_lines program ≡ []
  pub small : TellsSize own size program None

-- what becomes of a program
abbrev pub JudgesProgram : Own → SizeLimit → Program → Verdict → Type 0
JudgesProgram own size program (BadLines found) = ⊥
JudgesProgram own size program Empty = ⊥
JudgesProgram own size program (Refused f) = HasFaults own size program f × ¬ (IsGood own size program)
JudgesProgram own size program (Accepted p) = (lines_of p ≡ program) × IsGood own size program

-- what becomes of bad lines and of the program that the other lines make
abbrev pub JudgesLines : Own → SizeLimit → List SourceError → List (ℕ × Statement) → Verdict → Type 0
JudgesLines own size bad program (BadLines found) = (found.items ≡ bad) × (bad ≢ [])
JudgesLines own size bad program Empty = (bad ≡ []) × (program ≡ [])
JudgesLines own size bad program (Refused f) = (bad ≡ []) × (program ≢ []) × JudgesProgram own size (lines_of program) (Refused f)
JudgesLines own size bad program (Accepted p) = (bad ≡ []) × (program ≢ []) × JudgesProgram own size (lines_of program) (Accepted p)

-- what becomes of a source: its bad lines, or that no line is left, or what is wrong with its program, or the program
abbrev pub Judges : Own → CheckSettings → List ℕ → Verdict → Type 0
Judges own settings source (BadLines found) =
    BadLinesAre settings.notation 1 (lines_of_file source) found.items × FirstIs settings.notation source found.items × (found.items ≢ [])
Judges own settings source Empty = SourceMakes settings.notation source (at_end [])
Judges own settings source (Refused f) = (program : Program) × SourceMakes settings.notation source (Ok program) × JudgesProgram own settings.size program (Refused f)
Judges own settings source (Accepted p) = (program : Program) × SourceMakes settings.notation source (Ok program) × JudgesProgram own settings.size program (Accepted p)
