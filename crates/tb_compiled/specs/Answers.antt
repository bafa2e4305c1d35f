-- What a compiler answers.
use Rattle.std.specs.Prelude.{◌≡◌, ℕ, List, [], map, Result, Ok, Err}
use Rattle.tb_words.specs.Words.{word_of}
use Rattle.tb_basic_syntax.specs.Source.{Program}
use Rattle.tb_basic_text.specs.declared.notation.Notation.{Notation}
use Rattle.tb_basic_text.specs.declared.notation.Notation.TheVariants.{Plain}
use Rattle.tb_parser.specs.Files.{FileRefusal, Outcome, LinesIn}
use Rattle.tb_basic_text.specs.Lines.{lines_of_file}
use Rattle.tb_compiled_errors.specs.declared.refusals.CompileError.{CompileError}
use Rattle.tb_compiled_errors.specs.declared.refusals.CompileError.TheVariants.{NoMemory}
use Rattle.tb_compiled.specs.declared.compiled.Compiled.{Compiled}
use Rattle.tb_compiled.specs.declared.settings.CompileSettings.{CompileSettings}
use Rattle.tb_compiled.specs.Compiled.{IsCompiled, prg_of, starts_of, table_of, warnings_of}
use Rattle.tb_compiled.specs.Promise.{Own}
use Rattle.tb_compiled.specs.Refusals.{IsWithinCost, RefusesLines, RefusesProgram}

-- the answer for a program: its expressions are checked before its size
abbrev pub ProgramAnswer : Own → CompileSettings → Program → Result Compiled CompileError → Type 0
ProgramAnswer own settings program (Ok c) = IsWithinCost settings.size program × IsCompiled own settings.seed program c
ProgramAnswer own settings program (Err NoMemory) = Unit {0}
ProgramAnswer own settings program (Err e) = RefusesProgram own settings program e

-- the answer for a file that is refused
abbrev pub RefusalAnswer : FileRefusal → Result Compiled CompileError → Type 0
RefusalAnswer r (Ok c) = ⊥
RefusalAnswer r (Err NoMemory) = Unit {0}
RefusalAnswer r (Err e) = RefusesLines r e

-- the answer for what the lines of a file make
abbrev pub OutcomeAnswer : Own → CompileSettings → Outcome → Result Compiled CompileError → Type 0
OutcomeAnswer own settings (Ok program) result = ProgramAnswer own settings program result
OutcomeAnswer own settings (Err r) result = RefusalAnswer r result

-- what the lines of a file make in a notation
abbrev pub SourceMakes : Notation → List ℕ → Outcome → Type 0
SourceMakes notation source outcome = LinesIn notation 1 [] (lines_of_file source) outcome

-- what they make without signs
abbrev pub LinesMake : List ℕ → Outcome → Type 0
LinesMake source outcome = SourceMakes Plain source outcome

-- the file's outcome, and the answer for it
pub record Answered (own : Own) (settings : CompileSettings) (source : List ℕ) (result : Result Compiled CompileError) : Type 0 where
  pub outcome : Outcome
  pub made : SourceMakes settings.notation source outcome
  pub answer : OutcomeAnswer own settings outcome result

-- unless memory ran out, the file has an outcome
abbrev pub HasOutcome : Own → CompileSettings → List ℕ → Result Compiled CompileError → Type 0
HasOutcome own settings source (Err NoMemory) = Unit {0}
HasOutcome own settings source result = Answered own settings source result

-- whatever the lines of a file make is what is answered
abbrev pub AnswersFor : Own → CompileSettings → List ℕ → Result Compiled CompileError → Type 0
AnswersFor own settings source answer = (outcome : Outcome) → SourceMakes settings.notation source outcome → OutcomeAnswer own settings outcome answer

-- what a compiler promises of an answer for a source: what the file's lines make is answered, and whatever they make is
-- what is answered
pub record IsAnswer (own : Own) (settings : CompileSettings) (source : List ℕ) (answer : Result Compiled CompileError) : Type 0 where
  pub found : HasOutcome own settings source answer
  pub only : AnswersFor own settings source answer

-- a compiler's answer; to run out of memory is none
abbrev pub Compiles : Own → CompileSettings → List ℕ → Result Compiled CompileError → Type 0
Compiles own settings source (Err NoMemory) = ⊥
Compiles own settings source answer = IsAnswer own settings source answer

-- two compiled programs have the same file, lines, table and warnings
pub record AreSame (c d : Compiled) : Type 0 where
  pub prg : prg_of c ≡ prg_of d
  pub starts : starts_of c ≡ starts_of d
  pub table : table_of c ≡ table_of d
  pub warned : map {B = ℕ × ℕ} (λ w. (w.line, word_of w.target)) (warnings_of c) ≡ map (λ w. (w.line, word_of w.target)) (warnings_of d)

-- unless memory ran out, the answer is the same program
abbrev pub GivesSame : Compiled → Result Compiled CompileError → Type 0
GivesSame c (Ok d) = AreSame c d
GivesSame c (Err NoMemory) = Unit {0}
GivesSame c (Err e) = ⊥
