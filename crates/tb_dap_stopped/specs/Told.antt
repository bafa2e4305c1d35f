-- What a debug adapter tells of a run while a program is debugged.
use Rattle.std.specs.Prelude.{ℕ, ◌≡◌, ◌+◌, ◌-◌, ◌≤◌, ◌||◌, Bool, true, false, nat_lt, max, List, [], ◌∷◌, ◌++◌, codes, length, Option, Some, None, IfSome, Ok, unwrap_or, if◌then◌else◌}
use Rattle.std.specs.Io.KnownBytes.{Appends}
use Rattle.std.specs.Str.{bytes_eq}
use Rattle.serde_json.specs.Data.{Data}
use Rattle.serde_json.specs.View.{view}
use Rattle.tb_dap_messages.specs.Requests.{Asked, asked_in, no_message, passed, request}
use Rattle.tb_dap_messages.specs.declared.refusals.Refusal.{Refusal}
use Rattle.tb_dap_messages.specs.declared.refusals.Refusal.TheVariants.{NoJson, NoMessage, TooLarge}
use Rattle.tb_dap_values.specs.Arguments.{text_in}
use Rattle.tb_dap_values.specs.Requests.{command_of}
use Rattle.tb_dap_values.specs.declared.requests.Command.{Command}
use Rattle.tb_dap_values.specs.declared.requests.Command.TheVariants as command
use Rattle.tb_compiled.specs.Compiled.{loaded_of, prg_of}
use Rattle.tb_debug.specs.Debuggees.{line_from, program_of}
use Rattle.tb_debug.specs.Debuggers.{OnRun}
use Rattle.tb_debug.specs.Runs.{Point, first_point, point_at}
use Rattle.tb_debug.specs.Sources.{IsMadeOf, ShowsLine}
use Rattle.tb_debug.specs.declared.debugger.Debugger.{Debugger}
use Rattle.tb_debug.specs.declared.rom.Rom.{Rom}
use Rattle.tb_engine_sources.specs.declared.reading.CompiledSource.{CompiledSource}
use Rattle.tb_engines.specs.Programs.{StartsPrg}
use Rattle.tb_kernal.specs.Machine.{State, state_of}
use Rattle.tb_kernal.specs.Typing.{with_more}
use Rattle.tb_kernal.specs.declared.machine.Machine.{Machine}
use Rattle.tb_memmap.specs.Regions.{BASIC_START}
use Rattle.tb_engine_play.specs.Lines.{keys_of_text}
use Rattle.tb_compiled_kept.specs.Keeps.{Starts}
use Rattle.tb_basic_text.specs.declared.notation.Notation.{Notation}
use Rattle.tb_engine_streams.specs.HostForm.{host_form_of}
use Rattle.tb_basic_syntax.specs.Source.{Program}
use Rattle.tb_dap_requests.specs.Asking.{Evaluation, expression, question_in, typed}
use Rattle.tb_editor_dialogue.specs.Dialogue.{IsHeard, Moment, Talks}
use Rattle.tb_editor_dialogue.specs.declared.hearing.Heard.{Heard}
use Rattle.tb_editor_dialogue.specs.declared.hearing.Heard.TheVariants as heard
use Rattle.tb_dap_adapter.specs.Dialogue.{IsSession, TakesHeard}
use Rattle.tb_dap_adapter.specs.Talking.{given}
use Rattle.tb_dap_adapter.specs.declared.dialogue.Debugging.{Debugging}
use Rattle.tb_dap_requests.specs.Said.{AreFrames, Saying, complaint_of, done, event, refused}
use Rattle.tb_dap_adapter.specs.Sessions.{Takes, barred_move, most_typed}
use Rattle.tb_dap_requests.specs.Stops.{stop_of}
use Rattle.tb_dap_requests.specs.declared.launching.Plan.{Plan}
use Rattle.tb_dap_adapter.specs.declared.session.Session.{Session}
use Rattle.tb_dap_adapter.specs.declared.session.Stage.TheVariants.{Started}
use Rattle.tb_dap_requests.specs.declared.stops.Stop.{Stop}

-- ---- what is typed

-- the keys of a line, unless they are too many
abbrev pub keys_unless : Bool → List ℕ → List ℕ
keys_unless true keys = []
keys_unless false keys = keys

-- the keys of a line that is typed into a session, unless it is refused at its stage, or is too much
abbrev pub keys_at : Option Refusal → List ℕ → Session → List ℕ
keys_at (Some why) line s = []
keys_at None line s = keys_unless (nat_lt (most_typed - s.typed) (length (keys_of_text line))) (keys_of_text line)

-- the keys that `evaluate` types
abbrev pub keys_by : Option Evaluation → Session → List ℕ
keys_by (Some (typed line)) s = keys_at (barred_move s.stage) line s
keys_by (Some (expression text)) s = []
keys_by None s = []

-- the keys that a request types
abbrev pub keys_for : Option Command → Data → Session → List ℕ
keys_for (Some command.Evaluate) a s = keys_by (question_in a) s
keys_for c a s = []

-- the keys that a message types
abbrev pub keys_asked : Asked → Session → List ℕ
keys_asked (request seq c a) s = keys_for (command_of c) (given a) s
keys_asked passed s = []
keys_asked no_message s = []

-- the keys that are typed by what a frame holds
abbrev pub keys_of : Heard → Session → List ℕ
keys_of (heard.Value v) s = keys_asked (asked_in (view v)) s
keys_of heard.NoJson s = []
keys_of heard.TooLarge s = []

-- ---- what is said

-- what is said to a message
abbrev pub SaysAsked : Asked → Session → List Saying → Session → Type 0
SaysAsked (request seq c a) s told t = Takes (command_of c) (given a) s told t
SaysAsked passed s told t = (told ≡ []) × (t ≡ s)
SaysAsked no_message s told t = (told ≡ complaint_of NoMessage ∷ []) × (t ≡ s)

-- what is said to what a frame holds
abbrev pub SaysTo : Heard → Session → List Saying → Session → Type 0
SaysTo (heard.Value v) s told t = SaysAsked (asked_in (view v)) s told t
SaysTo heard.NoJson s told t = (told ≡ complaint_of NoJson ∷ []) × (t ≡ s)
SaysTo heard.TooLarge s told t = (told ≡ complaint_of TooLarge ∷ []) × (t ≡ s)

-- the number of the message that is answered, and its command
abbrev pub number_asked : Asked → ℕ
number_asked (request seq c a) = seq
number_asked passed = 0
number_asked no_message = 0

abbrev pub command_asked : Asked → List ℕ
command_asked (request seq c a) = c
command_asked passed = []
command_asked no_message = []

abbrev pub number_of : Heard → ℕ
number_of (heard.Value v) = number_asked (asked_in (view v))
number_of heard.NoJson = 0
number_of heard.TooLarge = 0

abbrev pub name_of : Heard → List ℕ
name_of (heard.Value v) = command_asked (asked_in (view v))
name_of heard.NoJson = []
name_of heard.TooLarge = []

-- ---- stops

-- an event by its name is a stop of a debugger, where it is a stop
abbrev pub IsStopBy : Bool → Debugger → Saying → Type 0
IsStopBy true d one = (why : Stop) × (one ≡ stop_of why d)
IsStopBy false d one = Unit {0}

abbrev pub IsStopOf : Debugger → Saying → Type 0
IsStopOf d (event name body) = IsStopBy (bytes_eq name (codes "stopped")) d (event name body)
IsStopOf d (done body) = Unit {0}
IsStopOf d (refused text is_shown) = Unit {0}

-- each stop of which something is said is one of a debugger
abbrev pub AreStopsOf : Debugger → List Saying → Type 0
AreStopsOf d [] = Unit {0}
AreStopsOf d (one ∷ told) = IsStopOf d one × AreStopsOf d told

-- it is said that the run stopped, or that it has ended
abbrev pub is_rest : Saying → Bool
is_rest (event name body) = bytes_eq name (codes "stopped") || bytes_eq name (codes "exited")
is_rest (done body) = false
is_rest (refused text is_shown) = false

abbrev pub has_rest : List Saying → Bool
has_rest [] = false
has_rest (one ∷ told) = is_rest one || has_rest told

-- after how many events it rests where this is said
abbrev pub rests_after : List Saying → Session → ℕ
rests_after told s = if has_rest told then s.debugger.present.events else 0

-- ---- output

-- a text is in the program's category
abbrev pub is_of_program : Option (List ℕ) → Bool
is_of_program (Some category) = bytes_eq category (codes "stdout")
is_of_program None = false

-- the text of an event of output, if it is the program's
abbrev pub text_of_output : Data → List ℕ
text_of_output body = if is_of_program (text_in body (codes "category")) then unwrap_or (text_in body (codes "output")) [] else []

-- what is said of the program's output
abbrev pub output_by : Saying → List ℕ
output_by (event name (Some body)) = if bytes_eq name (codes "output") then text_of_output body else []
output_by (event name None) = []
output_by (done body) = []
output_by (refused text is_shown) = []

-- the texts one behind the other
abbrev pub output_in : List Saying → List ℕ
output_in [] = []
output_in (one ∷ told) = output_by one ++ output_in told

-- ---- a dialogue

-- messages that say this to a request are written, numbered one after the other
abbrev pub IsWritten : (asked : ℕ) → List ℕ → List Saying → (next next_after : ℕ) → (old new : Option (List ℕ)) → (wrote wrote_after : ℕ) → Type 0
IsWritten asked c told next next' old new wrote wrote' =
    (frames : List ℕ) × AreFrames next asked c told frames × Appends old new frames × (wrote' ≡ wrote) × (next' ≡ next + length told)

-- Frames lead from one moment to another, each answered before the next one is read. These keys were typed, this was
-- said, the last at the end, and the run rested after so many events at most.
pub data Tells : Moment Debugging → Moment Debugging → (keys : List ℕ) → (told : List Saying) → (farthest : ℕ) → Type 0 where
  none : (a : Moment Debugging) → Tells a a [] [] 0
  more : (a b c : Moment Debugging) (keys : List ℕ) (told one : List Saying) (farthest : ℕ) (h : Heard) → Tells a b keys told farthest
      → IsHeard h b.at c.at → SaysTo h b.talker.session one c.talker.session
      → IsWritten (number_of h) (name_of h) one b.talker.next c.talker.next b.at.written c.at.written b.at.wrote c.at.wrote
      → AreStopsOf c.talker.session.debugger one
      → Tells a c (keys ++ keys_of h b.talker.session) (told ++ one) (max farthest (rests_after one c.talker.session))

-- the machine from which a program was started, with all that was typed
abbrev pub start_of : Machine → List ℕ → State
start_of machine keys = with_more keys (state_of machine)

-- where the run on these keys starts
abbrev pub run_of : Machine → Rom → List ℕ → Point
run_of machine rom keys = first_point (start_of machine keys) rom

-- A session is on the run of its program from its start on these keys. Where a line begins, and a compiler made the program,
-- the source goes on at that line, with the variables, the lines to return to and the output that the machine has.
pub record IsOnRun (source : CompiledSource) (machine : Machine) (rom : Rom) (keys : List ℕ) (s : Session) : Type 0 where
  pub program : program_of s.debugger.debuggee ≡ Some source.program
  pub run : OnRun (run_of machine rom keys) s.debugger
  pub shows : (p : Program) (seed : ℕ) → IsMadeOf p seed source.program → Starts BASIC_START (loaded_of source.program) (start_of machine keys)
      → IfSome (line_from s.debugger.debuggee s.debugger.present.machine.regs.pc)
      (λ line. ShowsLine p seed (start_of machine keys) source.program s.debugger line)

-- What was told of the program's output is what the run on these keys has sent at the farthest moment at which it
-- rested.
abbrev pub OutputIsTold : Machine → Rom → List ℕ → List Saying → ℕ → Session → Type 0
OutputIsTold machine rom keys told farthest s =
    output_in told ≡ host_form_of (point_at s.debugger.starts (run_of machine rom keys) farthest).state.sent

-- In each dialogue with a program that was launched, what is told is of the run on all keys so far.
abbrev pub WhatIsToldIsOfTheRun : Type 0
WhatIsToldIsOfTheRun =
    (path : List ℕ) (source : CompiledSource) (notation : Notation) (text answers : List ℕ) (machine : Machine) (rom : Rom) (plan : Plan) (a b : Moment Debugging)
    → StartsPrg text answers (prg_of source.program) (Ok machine) → IsSession path source notation machine rom plan a.talker.session → Talks TakesHeard a b
    → (keys : List ℕ) × (told : List Saying) × (farthest : ℕ) × Tells a b keys told farthest × IsOnRun source machine rom keys b.talker.session
    × OutputIsTold machine rom keys told farthest b.talker.session
    × (b.talker.session.stage ≡ Started → b.talker.session.debugger.present.events ≤ farthest)
