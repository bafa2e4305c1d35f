-- The run of a compiled program from its start, with the table of its lines.
use Rattle.std.specs.Prelude.{ℕ, ◌≡◌, Result, Ok, Err}
use Rattle.tb_memmap.specs.Regions.{BASIC_START}
use Rattle.tb_kernal.specs.declared.events.Event.{Event}
use Rattle.tb_kernal.specs.Machine.{Content}
use Rattle.tb_compiled.specs.Compiled.{starts_of, loaded_of}
use Rattle.tb_compiled.specs.declared.compiled.Compiled.{Compiled}
use Rattle.tb_engines.specs.Programs.{start, end_of, Settings, plain_settings_of}
use Rattle.tb_engines.specs.declared.delivery.NoText.{NoText}
use Rattle.tb_engines.specs.declared.delivery.NoText.TheVariants.{Refused, NoMemory}
use Rattle.tb_engine_profile_table.specs.Rows.{Tabled}
use Rattle.tb_engine_profile.specs.declared.running.Ran.{Ran}
use Rattle.tb_engine_profile.specs.declared.running.Run.{Run}

-- A run of at most `limit` events that an outside gave a machine, the table of the program's lines by the addresses
-- where their code begins, and how it ended.
pub record RunsFrom {O : Type 0} (gives : O → Content → Event → O → Type 0) (o : O) (limit : ℕ) (program : Compiled) (m : Content) (ran : Ran) : Type 0 where
  pub outside : O
  pub machine : Content
  pub tabled : Tabled gives o m (starts_of program) limit ran.table outside machine
  pub end : ran.end ≡ end_of ran.table.status machine.regs.pc

-- a run from a program's start machine, the table of the program's lines, and how the run ended
abbrev pub IsProfile : {O : Type 0} → Settings O → Compiled → Ran → Type 0
IsProfile s program ran = RunsFrom s.gives s.outside s.limit program (start BASIC_START (loaded_of program) s.text s.answers) ran

-- what a run is given, as the definitions of runs have it
abbrev pub given : {O W : Type 0} → (O → Content → Event → O → Type 0) → Run O W → Settings O
given gives run = plain_settings_of gives run.outside run.keyboard run.limit

-- a run, unless memory ran out
abbrev pub ComesTo : (Ran → Type 0) → Result Ran NoText → Type 0
ComesTo is (Ok ran) = is ran
ComesTo is (Err (Refused e)) = ⊥
ComesTo is (Err NoMemory) = Unit {0}
