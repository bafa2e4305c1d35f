-- A verdict compared with what the compiler answers.
use Rattle.std.specs.Prelude.{◌≡◌, ℕ, List, [], ◌∷◌, Option, Some, None, Result, Ok, Err}
use Rattle.tb_basic_meaning.specs.declared.needs.LowerError.TheVariants as deep
use Rattle.tb_parser.specs.declared.errors.SourceError.{SourceError}
use Rattle.tb_parser.specs.declared.errors.SourceErrorKind.TheVariants as kind
use Rattle.tb_parser.specs.Answers.{refusal_of}
use Rattle.tb_parser.specs.Files.{refused_at}
use Rattle.tb_parser.specs.Readings.{Refusal, at_column}
use Rattle.tb_compiled_errors.specs.declared.refusals.CompileError.TheVariants.{Source, Lower, TooLarge, NoMemory}
use Rattle.tb_compiled_errors.specs.declared.refusals.CompileError.{CompileError}
use Rattle.tb_compiled.specs.Answers.{AnswersFor, RefusalAnswer}
use Rattle.tb_compiled.specs.Promise.{Own}
use Rattle.tb_compiled.specs.declared.compiled.Compiled.{Compiled}
use Rattle.tb_compiled.specs.declared.settings.CompileSettings.{CompileSettings}
use Rattle.tb_engine_findings.specs.declared.settings.CheckSettings.{CheckSettings}
use Rattle.tb_engine_findings.specs.declared.judging.ProgramFaults.{ProgramFaults}
use Rattle.tb_engine_findings.specs.declared.judging.Verdict.{Verdict}
use Rattle.tb_engine_findings.specs.declared.judging.Verdict.TheVariants.{BadLines, Empty, Refused, Accepted}

-- the compiler's refusal is the first of the bad lines
abbrev pub RefusesFirst : List SourceError → Result Compiled CompileError → Type 0
RefusesFirst [] answer = ⊥
RefusesFirst (e ∷ found) answer = (r : Refusal) × (refusal_of e.kind e.column ≡ Some r) × RefusalAnswer (refused_at e.line r) answer

abbrev pub first_of : List ℕ → Option ℕ
first_of [] = None
first_of (n ∷ ns) = Some n

-- the compiler's refusal is one of a program's faults: the lowest line that is too deep, else the size
abbrev pub RefusesProgram : ProgramFaults → Result Compiled CompileError → Type 0
RefusesProgram f (Ok c) = ⊥
RefusesProgram f (Err (Source e)) = ⊥
RefusesProgram f (Err (Lower deep.NoMemory)) = ⊥
RefusesProgram f (Err (Lower (deep.TooDeep n))) = first_of f.deep.items ≡ Some n
RefusesProgram f (Err (TooLarge n)) = (f.deep.items ≡ []) × (f.too_large ≡ Some n)
RefusesProgram f (Err NoMemory) = Unit {0}

-- the compiler refuses nothing
abbrev pub Accepts : Result Compiled CompileError → Type 0
Accepts (Ok c) = Unit {0}
Accepts (Err (Source e)) = ⊥
Accepts (Err (Lower e)) = ⊥
Accepts (Err (TooLarge n)) = ⊥
Accepts (Err NoMemory) = Unit {0}

-- the compiler accepts what is accepted, and refuses else, by the first of the faults; nothing is said of want of memory
abbrev pub AgreesWith : Verdict → Result Compiled CompileError → Type 0
AgreesWith (BadLines found) answer = RefusesFirst found.items answer
AgreesWith Empty answer = RefusalAnswer (refused_at 0 (at_column kind.Empty 0)) answer
AgreesWith (Refused f) answer = RefusesProgram f answer
AgreesWith (Accepted p) answer = Accepts answer

-- the compiler's settings with a seed
abbrev pub with_seed : ℕ → CheckSettings → CompileSettings
with_seed seed settings = record { seed = seed; size = settings.size; notation = settings.notation }

-- whatever a compiler may answer for a source, with any seed, agrees with a verdict
abbrev pub Agrees : Own → CheckSettings → List ℕ → Verdict → Type 0
Agrees own settings source v =
    (seed : ℕ) (answer : Result Compiled CompileError) → AnswersFor own (with_seed seed settings) source answer → AgreesWith v answer
