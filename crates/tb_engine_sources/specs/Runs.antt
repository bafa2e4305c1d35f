-- What is told of the run of a source.
use Rattle.std.specs.Prelude.{ℕ, ◌≡◌, List, Option, None, Ok}
use Rattle.tb_kernal.specs.declared.events.Event.{Event}
use Rattle.tb_kernal.specs.Sending.{KnowsLast, with_earlier}
use Rattle.tb_kernal.specs.Machine.{Content, state_of, status}
use Rattle.tb_kernal.specs.Hearing.{Hearing}
use Rattle.tb_compiled.specs.Compiled.{prg_of}
use Rattle.tb_compiled.specs.declared.compiled.Compiled.{Compiled}
use Rattle.tb_compiled.specs.declared.settings.CompileSettings.{CompileSettings}
use Rattle.tb_engine_streams.specs.Streams.{Reads}
use Rattle.tb_engine_streams.specs.Uses.{Use}
use Rattle.tb_engine_streams.specs.declared.outcome.Outcome.TheVariants.{Ended, Refused, ReadFault, WriteFault, NoMemory}
use Rattle.tb_engines.specs.Outcomes.{Outcome}
use Rattle.tb_engines.specs.Writing.{kept_sent}
use Rattle.tb_engines.specs.Ends.{EndsAs, RunsTo}
use Rattle.tb_engines.specs.Programs.{Settings}
use Rattle.tb_engines.specs.declared.outcome.End.{End}
use Rattle.tb_compiled.specs.Answers.{Compiles}
use Rattle.tb_engine_sources.specs.Notes.{end_note}
use Rattle.tb_engine_sources.specs.declared.notes.EndNote.{EndNote}
use Rattle.tb_compiled.specs.Promise.{Own}

-- what is told by a machine with all that it sent, of which it knows the end
abbrev pub NotesWhole : Compiled → Content → Option EndNote → Type 0
NotesWhole program n note =
    (earlier : List ℕ) → KnowsLast kept_sent earlier n.sent → note ≡ end_note program (status (state_of n)) (with_earlier earlier n)

-- what a machine tells of a run that left it, whatever it has forgotten of what it sent; nothing where no run ended
abbrev pub NotesRun : Compiled → Outcome → Content → Option EndNote → Type 0
NotesRun program (Ended end) n note = NotesWhole program n note
NotesRun program WriteFault n note = NotesWhole program n note
NotesRun program (Refused e) n note = note ≡ None
NotesRun program ReadFault n note = note ≡ None
NotesRun program NoMemory n note = note ≡ None

-- what is told of a run from a machine that ended so is what the machine tells to which it led
abbrev pub NotesEnd : {O W : Type 0} → (O → Content → Event → O → Type 0) → O → ℕ → Hearing W → Content → Compiled → End → Option EndNote → Type 0
NotesEnd gives o limit watch start program end note =
    (n : Content) × RunsTo gives o limit watch start end n × (note ≡ end_note program (status (state_of n)) n)

-- what is told of a program's run that ended so is what its machine tells
abbrev pub TellsEnd : {O W : Type 0} → Settings O → Hearing W → Compiled → End → Option EndNote → Type 0
TellsEnd s watch program end note =
    (n : Content) × EndsAs s watch (prg_of program) end n × (note ≡ end_note program (status (state_of n)) n)

-- what is told of the run of a source that is read is what its program's machine tells
abbrev pub TellsSource : {O W : Type 0} → Own → Settings O → Hearing W → CompileSettings → Use → End → Option EndNote → Type 0
TellsSource own s watch settings reader end note =
    (source : List ℕ) × Reads reader.old source × ((program : Compiled) × Compiles own settings source (Ok program) × TellsEnd s watch program end note)
