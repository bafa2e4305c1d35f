-- What is said with a program, and in a whole dialogue.
use Rattle.std.specs.Prelude.{ℕ, ◌≡◌, ◌⊎◌, false, List, codes, Option, Some, Result, Ok, Err, string_bytes}
use Rattle.std.specs.declared.alloc.AllocError.{AllocError}
use Rattle.std.specs.declared.alloc.Global.{Global}
use Rattle.std.specs.declared.vec.Vec.{Vec}
use Rattle.serde_json.specs.Data.{Data}
use Rattle.serde_json.specs.View.{view}
use Rattle.tb_dap_messages.specs.Requests.{Asked, asked_in, no_message, passed, request}
use Rattle.tb_dap_messages.specs.declared.refusals.Refusal.{Refusal}
use Rattle.tb_dap_messages.specs.declared.refusals.Refusal.TheVariants as refusal
use Rattle.tb_dap_requests.specs.Said.{Saying}
use Rattle.tb_dap_requests.specs.declared.launching.Plan.{Plan}
use Rattle.tb_dap_requests.specs.declared.launching.Usual.{Usual}
use Rattle.tb_dap_values.specs.Requests.{command_of}
use Rattle.tb_debug.specs.Debuggees.{program_of}
use Rattle.tb_debug.specs.Debuggers.{IsOpening, OnRun}
use Rattle.tb_debug.specs.Runs.{first_point}
use Rattle.tb_debug.specs.declared.rom.Rom.{Rom}
use Rattle.tb_editor_dialogue.specs.Dialogue.{Converses, Streams, Writes, WritesFrames, moment, streams}
use Rattle.tb_editor_dialogue.specs.declared.hearing.Heard.{Heard}
use Rattle.tb_editor_dialogue.specs.declared.hearing.Heard.TheVariants as heard
use Rattle.tb_editor_dialogue.specs.declared.talking.Turn.{Turn}
use Rattle.tb_editor_frames.specs.declared.outcome.BadFrame.{BadFrame}
use Rattle.tb_kernal.specs.Machine.{state_of}
use Rattle.tb_kernal.specs.declared.machine.Machine.{Machine}
use Rattle.tb_basic_names.specs.Sources.{AreLinesOf}
use Rattle.tb_engine_sources.specs.declared.reading.CompiledSource.{CompiledSource}
use Rattle.tb_engine_streams.specs.declared.outcome.Done.{Done}
use Rattle.tb_engine_streams.specs.declared.outcome.Outcome.{Outcome}
use Rattle.tb_engine_streams.specs.declared.outcome.Outcome.TheVariants.{WriteFault, NoMemory}
use Rattle.tb_engine_streams.specs.declared.stream.InputError.{InputError}
use Rattle.tb_engine_streams.specs.declared.tracked.StreamFailure.{StreamFailure}
use Rattle.tb_basic_text.specs.declared.notation.Notation.{Notation}
use Rattle.tb_dap_adapter.specs.Outcomes.{AdapterOutcome}
use Rattle.tb_dap_adapter.specs.Sessions.{Takes, opening}
use Rattle.tb_dap_adapter.specs.Talking.{Complains, Says, SaysAndEnds, end_by, given, silence}
use Rattle.tb_dap_adapter.specs.Waiting.{Waits, launched_by}
use Rattle.tb_dap_adapter.specs.declared.dialogue.Debugging.{Debugging}
use Rattle.tb_dap_adapter.specs.declared.session.Session.{Session}
use Rattle.tb_dap_adapter.specs.declared.session.Stage.TheVariants as stage
use Rattle.tb_dap_adapter.specs.declared.waiting.Launched.{Launched}
use Rattle.tb_dap_adapter.specs.declared.waiting.Waited.{Waited}
use Rattle.tb_compiled.specs.Promise.{Own}

-- ---- with a program

-- a request is taken, and what is said to it is a turn
abbrev pub TakesRequest : (asked : ℕ) → List ℕ → Data → Debugging → Turn Done → Debugging → Type 0
TakesRequest asked c arguments s turn t =
    (told : List Saying) × Takes (command_of c) arguments s.session told t.session
    × SaysAndEnds asked c told (end_by (command_of c) (record {})) turn s.next t.next

-- it is said of a frame that it is no message, and the session is as it was
abbrev pub Refuses : Refusal → Debugging → Result (Turn Done) AllocError → Debugging → Type 0
Refuses why s (Ok turn) t = Complains why turn s.next t.next × (t.session ≡ s.session)
Refuses why s (Err e) t = t.session ≡ s.session

-- a message is taken, if memory does not run out
abbrev pub TakesMessage : Asked → Debugging → Result (Turn Done) AllocError → Debugging → Type 0
TakesMessage (request seq c arguments) s (Ok turn) t = TakesRequest seq c (given arguments) s turn t
TakesMessage (request seq c arguments) s (Err e) t = Unit {0}
TakesMessage passed s result t = (result ≡ Ok silence) × (t ≡ s)
TakesMessage no_message s result t = Refuses refusal.NoMessage s result t

-- what is heard is taken
abbrev pub TakesHeard : Debugging → Heard → Result (Turn Done) AllocError → Debugging → Type 0
TakesHeard s (heard.Value v) result t = TakesMessage (asked_in (view v)) s result t
TakesHeard s heard.NoJson result t = Refuses refusal.NoJson s result t
TakesHeard s heard.TooLarge result t = Refuses refusal.TooLarge s result t

-- the dialogue ends with its input
abbrev pub IsDone : Debugging → Done → Type 0
IsDone s end = end ≡ record {}

-- ---- the whole

-- a session of a program that is loaded: its lines are the source's in the notation, its debugger is on the program's run
-- from the machine that was started, where it is opened, and nothing was set, told or typed
pub record IsSession (at : List ℕ) (source : CompiledSource) (notation : Notation) (machine : Machine) (rom : Rom) (asked : Plan) (s : Session) : Type 0 where
  pub path : s.file.path.now ≡ at
  pub lines : AreLinesOf notation source.text.items s.file.source.lines.items
  pub program : s.file.program.now ≡ source.program
  pub debugs : program_of s.debugger.debuggee ≡ Some source.program
  pub run : OnRun (first_point (state_of machine) rom) s.debugger
  pub opens : IsOpening (first_point (state_of machine) rom) s.debugger
  pub plan : s.plan ≡ asked
  pub stage : s.stage ≡ stage.Loaded
  pub untyped : s.typed ≡ 0
  pub steps : s.steps ≡ false

-- what is said as a program is launched is written, or the writer fails, or memory ran out
abbrev pub Opens : ℕ → Session → (next : ℕ) → Result (Unit {0}) AdapterOutcome → (next_after : ℕ) → (old new : Option (List ℕ)) → (wrote wrote_after : ℕ) → Type 0
Opens asked s next (Ok done) next' old new wrote wrote' =
    (frames : Option (Vec ℕ Global)) × Says asked (codes "launch") (opening s) frames next next' × Writes frames old new wrote wrote'
Opens asked s next (Err WriteFault) next' old new wrote wrote' =
    (frames : Option (Vec ℕ Global)) × (e : StreamFailure) × Says asked (codes "launch") (opening s) frames next next' × WritesFrames frames (Err e) old new wrote wrote'
Opens asked s next (Err NoMemory) next' old new wrote wrote' = (new ≡ old) × (wrote' ≡ wrote)
Opens asked s next (Err _) next' old new wrote wrote' = ⊥

-- a session that was opened, with the number of its next message
abbrev pub debugging : Session → ℕ → Debugging
debugging s next = record { session = s; next = next }

-- it is opened, and then frames are answered; or it could not be opened
abbrev pub OpensAndTalks : ℕ → Session → (next : ℕ) → Streams → AdapterOutcome → Streams → Type 0
OpensAndTalks asked s next a outcome z =
    ((next' : ℕ) × (written : Option (List ℕ)) × (wrote : ℕ) × Opens asked s next (Ok (record {})) next' a.written written a.wrote wrote
    × ((y : Debugging) × Converses TakesHeard IsDone (moment (debugging s next') (streams a.left a.read written wrote)) outcome (moment y z)))
    ⊎ ((next' : ℕ) × Opens asked s next (Err outcome) next' a.written z.written a.wrote z.wrote × (z.left ≡ a.left) × (z.read ≡ a.read))

-- A program that is launched is debugged. If there is no memory for its session, nothing is read or written.
abbrev pub Debugs : Launched → (next : ℕ) → Streams → AdapterOutcome → Streams → Type 0
Debugs l next a outcome z =
    ((s : Session) × IsSession (string_bytes l.loaded.path) l.loaded.source l.loaded.notation l.loaded.machine l.loaded.rom l.loaded.plan s
    × OpensAndTalks l.asked s next a outcome z)
    ⊎ ((outcome ≡ NoMemory) × (z ≡ a))

-- what was launched is debugged, if something was
abbrev pub GoesOn : Result Launched AdapterOutcome → (next : ℕ) → Streams → AdapterOutcome → Streams → Type 0
GoesOn (Ok l) next a outcome z = Debugs l next a outcome z
GoesOn (Err e) next a outcome z = (outcome ≡ e) × (z ≡ a)

-- a whole dialogue of an adapter that has something for a launch: up to a launch, and then with the program
abbrev pub Serves : {S : Type 0} → Own → (S → List ℕ → Result (List ℕ) InputError → S → Type 0) → Usual → S → Streams → AdapterOutcome → S → Streams → Type 0
Serves own reads usual s a outcome t z =
    (first : Outcome Waited BadFrame) × (next : ℕ) × (b : Streams) × Waits own reads usual s a first t next b × GoesOn (launched_by first) next b outcome z
