-- Reading and compiling a source.
use Rattle.std.specs.Prelude.{ℕ, ◌≡◌, List, Result, Ok, Err}
use Rattle.tb_memmap.specs.Regions.{BASIC_START}
use Rattle.tb_basic_syntax.specs.Source.{Program}
use Rattle.tb_compiled_kept.specs.LineStarts.{MarksLines}
use Rattle.tb_engine_streams.specs.Streams.{Reads}
use Rattle.tb_engine_streams.specs.Uses.{Use, NeverFails, MayFault}
use Rattle.tb_compiled_errors.specs.declared.refusals.CompileError.{CompileError}
use Rattle.tb_engines.specs.Outcomes.{Failure}
use Rattle.tb_engine_streams.specs.declared.outcome.Outcome.TheVariants.{Ended, Refused, ReadFault, WriteFault, NoMemory}
use Rattle.tb_engines.specs.declared.outcome.Refusal.TheVariants.{Source}
use Rattle.tb_compiled.specs.Answers.{SourceMakes, IsAnswer, Compiles}
use Rattle.tb_compiled.specs.Compiled.{IsCompiled}
use Rattle.tb_compiled.specs.Compiled.{prg_of, loaded_of, start_of}
use Rattle.tb_compiled.specs.declared.compiled.Compiled.{Compiled}
use Rattle.tb_compiled.specs.declared.settings.CompileSettings.{CompileSettings}
use Rattle.tb_engine_sources.specs.declared.reading.CompiledSource.{CompiledSource}
use Rattle.tb_engine_sources.specs.Output.{KeepsSource}
use Rattle.tb_compiled.specs.Promise.{Own}

-- the compiler's answer for a source is this program: it keeps the source, and begins the source's lines where it says
pub record IsCompilation (own : Own) (settings : CompileSettings) (source : List ℕ) (program : Compiled) : Type 0 where
  pub answer : IsAnswer own settings source (Ok program)
  pub keeps : KeepsSource settings source (prg_of program)
  pub lines : Program
  pub makes : SourceMakes settings.notation source (Ok lines)
  pub compiled : IsCompiled own settings.seed lines program
  pub marks : MarksLines BASIC_START (loaded_of program) lines settings.seed (start_of program)

-- what compiling a source answers: the source with its program, or the compiler's refusal
abbrev pub CompilesText : Own → CompileSettings → List ℕ → Result CompiledSource Failure → Type 0
CompilesText own settings text (Ok s) = (s.text.items ≡ text) × IsCompilation own settings s.text.items s.program
CompilesText own settings text (Err (Refused why)) = (e : CompileError) × Compiles own settings text (Err e) × (why ≡ Source e)
CompilesText own settings text (Err NoMemory) = Unit {0}
CompilesText own settings text (Err ReadFault) = ⊥
CompilesText own settings text (Err WriteFault) = ⊥
CompilesText own settings text (Err (Ended never)) = ⊥

-- what reading and compiling a source answers: all that the reader had, with its program, or why there is none
abbrev pub ReadsSource : Own → CompileSettings → Result CompiledSource Failure → Use → Type 0
ReadsSource own settings (Ok s) reader = Reads reader.old s.text.items × IsCompilation own settings s.text.items s.program × NeverFails reader
ReadsSource own settings (Err (Refused why)) reader =
    (source : List ℕ) × (e : CompileError) × Reads reader.old source × Compiles own settings source (Err e) × (why ≡ Source e) × NeverFails reader
ReadsSource own settings (Err ReadFault) reader = MayFault reader
ReadsSource own settings (Err NoMemory) reader = NeverFails reader
ReadsSource own settings (Err (Ended never)) reader = ⊥
ReadsSource own settings (Err WriteFault) reader = ⊥
