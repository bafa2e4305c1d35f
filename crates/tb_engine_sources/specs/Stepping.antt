-- What comes of a source and of commands.
use Rattle.std.specs.Prelude.{ℕ, ◌≡◌, ◌⊎◌, List, [], length, Some, None, Result, Ok, Err}
use Rattle.std.specs.Io.KnownBytes.{Consumes}
use Rattle.tb_memmap.specs.Regions.{BASIC_START}
use Rattle.tb_memmap.specs.Bytes.{IsOpenRange}
use Rattle.tb_basic_meaning.specs.declared.missing.Warning.{Warning}
use Rattle.tb_kernal.specs.declared.outside.Quiet.{Quiet}
use Rattle.tb_compiled.specs.Compiled.{loaded_of}
use Rattle.tb_compiled.specs.declared.compiled.Compiled.{Compiled}
use Rattle.tb_compiled.specs.declared.settings.CompileSettings.{CompileSettings}
use Rattle.tb_prg.specs.declared.PrgError.{PrgError}
use Rattle.tb_prg.specs.Prg.{content_of}
use Rattle.tb_stepper.specs.Holding.{Holds}
use Rattle.tb_debug_stepping.specs.Lines.{lines_of}
use Rattle.tb_debug_stepping.specs.Dialogue.{Dialogue}
use Rattle.tb_engine_streams.specs.Streams.{Reads}
use Rattle.tb_engine_streams.specs.Uses.{Use, Fails, NeverFails, MayFault}
use Rattle.tb_engines.specs.Outcomes.{Outcome, Product, Answers, MadeFrom}
use Rattle.tb_engines.specs.Programs.{Settings, start}
use Rattle.tb_engine_sources.specs.Sources.{FromSource}
use Rattle.tb_engines.specs.declared.outcome.End.TheVariants.{Done}
use Rattle.tb_engine_streams.specs.declared.outcome.Outcome.TheVariants.{Ended, Refused, ReadFault, WriteFault, NoMemory}
use Rattle.tb_engines.specs.declared.outcome.Refusal.TheVariants.{Prg, NotRam}
use Rattle.tb_compiled.specs.Promise.{Own}

-- the history of a program's start machine alone
abbrev pub start_of_history : Settings Quiet → Compiled → Holds Quiet
start_of_history s program =
    record { machine = start BASIC_START (loaded_of program) s.text s.answers; outside = s.outside; undos = []; program = Some program }

-- the answers to commands, over a program
abbrev pub Steps : Settings Quiet → Compiled → List ℕ → Product → Type 0
Steps s program commands (Ok (shown, end)) =
    (k : Holds Quiet) × Dialogue s.gives s.limit (start_of_history s program) (lines_of commands) shown k × (end ≡ Done)
Steps s program commands (Err e) = ⊥

-- what comes of a source and of commands
abbrev pub StepsThrough : Own → Settings Quiet → CompileSettings → List Warning → List ℕ → List ℕ → Product → Type 0
StepsThrough own s settings warnings source commands product = FromSource own settings (λ program. Steps s program commands) warnings source product

-- the history of a machine at the start of a program at an address, alone; there is no source
abbrev pub start_of_prg : Settings Quiet → ℕ → List ℕ → Holds Quiet
start_of_prg s at bytes =
    record { machine = start at bytes s.text s.answers; outside = s.outside; undos = []; program = None }

-- the answers to commands, over a program at an address, if all of it lies in RAM
abbrev pub StepsAt : Settings Quiet → ℕ → List ℕ → List ℕ → Product → Type 0
StepsAt s at bytes commands (Ok (shown, end)) =
    (k : Holds Quiet) × IsOpenRange at (length bytes) × Dialogue s.gives s.limit (start_of_prg s at bytes) (lines_of commands) shown k × (end ≡ Done)
StepsAt s at bytes commands (Err e) = (e ≡ NotRam) × ¬ (IsOpenRange at (length bytes))

-- what comes of commands and the load address and the bytes of a PRG file, or of a file that is no PRG file
abbrev pub StepsContent : Settings Quiet → Result (ℕ × List ℕ) PrgError → List ℕ → Product → Type 0
StepsContent s (Ok p) commands product = StepsAt s p.0 p.1 commands product
StepsContent s (Err e) commands product = product ≡ Err (Prg e)

-- what comes of a PRG file and of commands
abbrev pub StepsPrg : Settings Quiet → List ℕ → List ℕ → Product → Type 0
StepsPrg s file commands product = StepsContent s (content_of file) commands product

-- made from all that a reader had, all of which was taken from it
abbrev pub MadeFromTaken : Use → (List ℕ → Product → Type 0) → Product → Type 0
MadeFromTaken reader makes product = (input : List ℕ) × Reads reader.old input × Consumes reader.old reader.new input × makes input product

-- what an engine wrote of all that two readers had; the second is read to its end even if the source is refused
abbrev pub AnswersBoth : (List ℕ → List ℕ → Product → Type 0) → Outcome → Use → Use → Use → Type 0
AnswersBoth makes outcome source commands writer =
    Answers (MadeFrom source.old (λ text. MadeFromTaken commands (makes text))) outcome writer.old writer.new

-- A fault comes only if a stream failed in this call or a reader gave too many bytes; at every other outcome no stream
-- failed. The source is read first.
abbrev pub FaultsOfBoth : Outcome → Use → Use → Use → Type 0
FaultsOfBoth ReadFault source commands writer =
    ((MayFault source × NeverFails commands) ⊎ (NeverFails source × MayFault commands)) × NeverFails writer
FaultsOfBoth WriteFault source commands writer = NeverFails source × NeverFails commands × Fails writer
FaultsOfBoth (Ended end) source commands writer = NeverFails source × NeverFails commands × NeverFails writer
FaultsOfBoth (Refused e) source commands writer = NeverFails source × NeverFails commands × NeverFails writer
FaultsOfBoth NoMemory source commands writer = NeverFails source × NeverFails commands × NeverFails writer
