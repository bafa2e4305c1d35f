-- Where a run first differs from what was wanted, and in which line the program was then.
use Rattle.std.specs.Prelude.{ℕ, ◌≡◌, ◌≢◌, ◌⊎◌, ◌+◌, ◌<◌, ◌≤◌, List, [], ◌∷◌, length, Option, Some, None, Result, Ok, Err}
use Rattle.tb_memmap.specs.Regions.{BASIC_START}
use Rattle.tb_kernal.specs.declared.events.Event.{Event}
use Rattle.tb_kernal.specs.declared.status.Status.{Status}
use Rattle.tb_kernal.specs.declared.status.Status.TheVariants.{Running}
use Rattle.tb_kernal.specs.Machine.{Content, state_of, status}
use Rattle.tb_kernal.specs.Runs.{Gave}
use Rattle.tb_kernal.specs.Typing.{with_more}
use Rattle.tb_compiled.specs.Compiled.{loaded_of}
use Rattle.tb_compiled.specs.declared.compiled.Compiled.{Compiled}
use Rattle.tb_engines.specs.Programs.{start}
use Rattle.tb_engines.specs.Writing.{sent_since}
use Rattle.tb_engines.specs.declared.delivery.NoText.{NoText}
use Rattle.tb_engines.specs.declared.delivery.NoText.TheVariants.{Refused, NoMemory}
use Rattle.tb_engine_play.specs.Lines.{keys_of_text}
use Rattle.tb_engine_play.specs.Talks.{gives_quiet}
use Rattle.tb_engine_profile_table.specs.declared.rows.Row.{Row}
use Rattle.tb_engine_sources.specs.Notes.{end_note}
use Rattle.tb_engine_sources.specs.declared.notes.EndNote.{EndNote}
use Rattle.tb_engine_sources.specs.declared.notes.EndNote.TheVariants as note
use Rattle.tb_engine_streams.specs.HostForm.{shown_as}
use Rattle.tb_engine_test.specs.Running.{gives_rude}
use Rattle.tb_engine_test.specs.Talks.{Goes}
use Rattle.tb_engine_test.specs.declared.talk.Manner.{Manner}

-- the line that a machine tells
abbrev pub line_told : Option EndNote → Option ℕ
line_told (Some (note.Running line)) = line
line_told (Some (note.Waits line)) = line
line_told (Some (note.Fault f)) = Some f.line
line_told None = None

-- the start machine of a program, with nothing typed
abbrev pub start_of : Compiled → Content
start_of program = start BASIC_START (loaded_of program) [] []

-- lines were typed, one after the other, each when the machine had gone on
abbrev pub TypedTo : {O : Type 0} → (O → Content → Event → O → Type 0) → O → Content → Manner → List (List ℕ) → O → Content → Type 0
TypedTo gives o m manner [] p n = (p ≡ o) × (n ≡ m)
TypedTo gives o m manner (line ∷ lines) p n =
    (t : Status) × (sent : List ℕ) × (rows : List Row) × (q : _) × (w : Content) × (typed : Content) × Goes gives o m manner t sent rows q w
    × (state_of typed ≡ with_more (keys_of_text line) (state_of w)) × TypedTo gives q typed manner lines p n

-- Events were given until what is sent takes more than `room` bytes as it is shown, and no more of them: before the last
-- one it did not yet. Or the machine stopped, or took all that it may.
pub record GoesPast {O : Type 0} (gives : O → Content → Event → O → Type 0) (o : O) (m : Content) (manner : Manner) (room : ℕ) (p : O) (n : Content) : Type 0 where
  pub events : List Event
  pub few : length events ≤ manner.limit
  pub gave : Gave gives o m events p n
  pub ends : (room < length (shown_as manner.notation (sent_since m n))) ⊎ ((status (state_of n) ≢ Running) ⊎ (length events ≡ manner.limit))
  pub first : (events ≡ []) ⊎
      ((earlier : List Event) × (q : O) × (k : Content) × Gave gives o m earlier q k × (length earlier + 1 ≡ length events)
      × (length (shown_as manner.notation (sent_since m k)) ≤ room))

-- the line that a program is in where it sends what is shown behind `alike` bytes after these lines
abbrev pub LineAt : {O : Type 0} → (O → Content → Event → O → Type 0) → O → Compiled → List (List ℕ) → Manner → ℕ → Option ℕ → Type 0
LineAt gives o program lines manner alike line =
    (q : _) × (m : Content) × (p : _) × (n : Content) × TypedTo gives o (start_of program) manner lines q m
    × GoesPast gives q m manner alike p n × (line ≡ line_told (end_note program (status (state_of n)) n))

-- the line where a program sends what is shown behind `alike` bytes, beside a quiet ROM, or a rude one with a seed
abbrev pub LineBeside : Option ℕ → Compiled → List (List ℕ) → Manner → ℕ → Option ℕ → Type 0
LineBeside None program lines manner alike line = LineAt gives_quiet (record {}) program lines manner alike line
LineBeside (Some seed) program lines manner alike line = LineAt gives_rude seed program lines manner alike line

-- what there is, unless memory ran out
abbrev pub IfCame : {A : Type 0} → (A → Type 0) → Result A NoText → Type 0
IfCame is (Ok a) = is a
IfCame is (Err (Refused e)) = ⊥
IfCame is (Err NoMemory) = Unit {0}
