-- Running a program on the lines of a transcript.
use Rattle.std.specs.Prelude.{ℕ, ◌≡◌, List, [], Option, Some, None, Result}
use Rattle.tb_memmap.specs.Regions.{BASIC_START}
use Rattle.tb_kernal.specs.declared.events.Event.{Event}
use Rattle.tb_kernal.specs.declared.status.Status.{Status}
use Rattle.tb_kernal.specs.declared.status.Status.TheVariants as machine
use Rattle.tb_kernal.specs.Machine.{Content, state_of, status as status_of}
use Rattle.tb_kernal.specs.Outsides.{rude_event}
use Rattle.tb_words.specs.Words.{seed_after}
use Rattle.tb_compiled.specs.Compiled.{loaded_of}
use Rattle.tb_compiled.specs.declared.compiled.Compiled.{Compiled}
use Rattle.tb_engines.specs.Programs.{start}
use Rattle.tb_engines.specs.declared.delivery.NoText.{NoText}
use Rattle.tb_debug_inspection.specs.Faults.{number_of}
use Rattle.tb_engine_play.specs.Talks.{gives_quiet}
use Rattle.tb_engine_sources.specs.Notes.{end_note}
use Rattle.tb_engine_sources.specs.Starting.{StartsLoadable}
use Rattle.tb_engine_sources.specs.declared.notes.EndNote.{EndNote}
use Rattle.tb_engine_sources.specs.declared.notes.EndNote.TheVariants.{Fault}
use Rattle.tb_engine_transcripts.specs.declared.transcript.RunEnd.{RunEnd}
use Rattle.tb_engine_transcripts.specs.declared.transcript.RunEnd.TheVariants as ends
use Rattle.tb_engine_test.specs.Talks.{TalksFrom}
use Rattle.tb_engine_test.specs.declared.talk.Manner.{Manner}
use Rattle.tb_engine_test.specs.declared.running.Ran.{Ran}

-- how a run ended, by the machine's status and by what it tells; none of a compiled program goes wrong
abbrev pub run_end : Status → Option EndNote → RunEnd
run_end machine.Returned (Some (Fault f)) = ends.Fault (number_of f.kind) f.line
run_end machine.Returned _ = ends.Returned
run_end machine.Waits _ = ends.Waits
run_end machine.Running _ = ends.Runs
run_end (machine.Wrong w) _ = ends.Runs

-- what starting a program with nothing typed answers: its start machine, unless memory is wanting
abbrev pub StartsAlone : Compiled → Result Content NoText → Type 0
StartsAlone program result = StartsLoadable [] [] program result

-- what a run came to: its talk from the program's start machine, and how it ended, as the machine tells it
pub record RunsLines {O : Type 0} (gives : O → Content → Event → O → Type 0) (o : O) (manner : Manner) (program : Compiled) (lines : List (List ℕ)) (ran : Ran) : Type 0 where
  pub outside : O
  pub machine : Content
  pub status : Status
  pub talked : TalksFrom gives o (start BASIC_START (loaded_of program) [] []) manner lines ran.turns.items ran.rows.items ran.last.items status outside machine
  pub end : ran.end ≡ run_end status (end_note program (status_of (state_of machine)) machine)

-- what a rude ROM with this seed does
abbrev pub gives_rude : ℕ → Content → Event → ℕ → Type 0
gives_rude seed m e after = (after ≡ seed_after seed) × (e ≡ rude_event after m)

-- a run beside a quiet ROM, or beside a rude one with a seed
abbrev pub RunsBeside : Option ℕ → Manner → Compiled → List (List ℕ) → Ran → Type 0
RunsBeside None manner program lines ran = RunsLines gives_quiet (record {}) manner program lines ran
RunsBeside (Some seed) manner program lines ran = RunsLines gives_rude seed manner program lines ran
