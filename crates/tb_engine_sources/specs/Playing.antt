-- What is told of a program that is played.
use Rattle.std.specs.Prelude.{ℕ, ◌≡◌, List, Option, Some, None}
use Rattle.tb_kernal.specs.Machine.{Content, state_of, status}
use Rattle.tb_engine_streams.specs.declared.outcome.Outcome.TheVariants.{Ended, Refused, ReadFault, WriteFault, NoMemory}
use Rattle.tb_engines.specs.Outcomes.{Outcome}
use Rattle.tb_engine_play.specs.Plays.{IsStart}
use Rattle.tb_engine_play.specs.Talks.{Leaves}
use Rattle.tb_compiled.specs.Compiled.{prg_of}
use Rattle.tb_compiled.specs.declared.compiled.Compiled.{Compiled}
use Rattle.tb_engine_sources.specs.Notes.{end_note}
use Rattle.tb_engine_sources.specs.Runs.{NotesWhole}
use Rattle.tb_engine_sources.specs.declared.notes.EndNote.{EndNote}

-- what a machine tells that is left by playing a program, where playing ended
abbrev pub TellsLeft : Compiled → Outcome → Option Content → Option EndNote → Type 0
TellsLeft program (Ended end) (Some n) note = NotesWhole program n note
TellsLeft program (Ended end) None note = note ≡ None
TellsLeft program (Refused e) left note = note ≡ None
TellsLeft program ReadFault left note = note ≡ None
TellsLeft program WriteFault left note = note ≡ None
TellsLeft program NoMemory left note = note ≡ None

-- what is told of playing a program: what the machine tells to which its start machine came by what was typed
abbrev pub TellsPlay : ℕ → Compiled → Outcome → List ℕ → Option EndNote → Type 0
TellsPlay limit program (Ended end) typed note =
    (m : Content) × (n : Content) × IsStart (prg_of program) m × Leaves limit m (Ended end) typed n × (note ≡ end_note program (status (state_of n)) n)
TellsPlay limit program (Refused e) typed note = note ≡ None
TellsPlay limit program ReadFault typed note = note ≡ None
TellsPlay limit program WriteFault typed note = note ≡ None
TellsPlay limit program NoMemory typed note = note ≡ None
