-- What comes of a source.
use Rattle.std.specs.Prelude.{ℕ, ◌≡◌, List, [], Result, Ok, Err}
use Rattle.tb_basic_meaning.specs.declared.missing.Warning.{Warning}
use Rattle.tb_compiled.specs.declared.compiled.Compiled.{Compiled}
use Rattle.tb_compiled.specs.declared.settings.CompileSettings.{CompileSettings}
use Rattle.tb_compiled_errors.specs.declared.refusals.CompileError.{CompileError}
use Rattle.tb_compiled_errors.specs.declared.refusals.CompileError.TheVariants.{NoMemory}
use Rattle.tb_compiled.specs.Answers.{Compiles}
use Rattle.tb_compiled.specs.Compiled.{prg_of, warnings_of}
use Rattle.tb_engines.specs.Outcomes.{Failure, Outcome as EngineOutcome, Product}
use Rattle.tb_engines.specs.Programs.{Settings, RunsPrg}
use Rattle.tb_engines.specs.declared.outcome.End.TheVariants.{Done}
use Rattle.tb_engine_streams.specs.declared.outcome.Outcome.TheVariants.{Ended, Refused, ReadFault, WriteFault, NoMemory as NoEngineMemory}
use Rattle.tb_engines.specs.declared.outcome.Refusal.TheVariants.{Source}
use Rattle.tb_compiled.specs.Promise.{Own}

-- how an engine stops if there is no program
abbrev pub stop_of : CompileError → Failure
stop_of NoMemory = NoEngineMemory
stop_of e = Refused (Source e)

-- the product is the PRG file as it is
abbrev pub IsFile : Compiled → Product → Type 0
IsFile c product = product ≡ Ok (prg_of c, Done)

-- what comes of the compiler's answer: what `makes` says of the program, with its warnings, or the refusal
abbrev pub FromAnswer : (Compiled → Product → Type 0) → List Warning → Result Compiled CompileError → Product → Type 0
FromAnswer makes warnings (Ok c) product = (warnings ≡ warnings_of c) × makes c product
FromAnswer makes warnings (Err e) product = (warnings ≡ []) × (product ≡ Err (Source e))

-- what comes of a source
abbrev pub FromSource : Own → CompileSettings → (Compiled → Product → Type 0) → List Warning → List ℕ → Product → Type 0
FromSource own settings makes warnings source product =
    (answer : Result Compiled CompileError) × Compiles own settings source answer × FromAnswer makes warnings answer product

-- what comes of running a source: the run of its program's PRG file
abbrev pub RunsText : {O : Type 0} → Own → Settings O → CompileSettings → List Warning → List ℕ → Product → Type 0
RunsText own s settings warnings source product = FromSource own settings (λ program. RunsPrg s (prg_of program)) warnings source product

-- if an input was not read, there is nothing to warn of
abbrev pub WarnsOfRead : EngineOutcome → List Warning → Type 0
WarnsOfRead ReadFault warnings = warnings ≡ []
WarnsOfRead (Ended end) warnings = Unit {0}
WarnsOfRead (Refused e) warnings = Unit {0}
WarnsOfRead WriteFault warnings = Unit {0}
WarnsOfRead NoEngineMemory warnings = Unit {0}
