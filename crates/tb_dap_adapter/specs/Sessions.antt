-- What is said to requests while a program is debugged, and what becomes of its session.
use Rattle.std.specs.Prelude.{ℕ, ◌≡◌, ◌+◌, ◌-◌, ◌==◌, ◌&&◌, nat_lt, max, Bool, true, false, List, [], ◌∷◌, ◌++◌, codes, drop, length, map, Option, Some, None, Result, Ok, Err, if◌then◌else◌}
use Rattle.std.specs.Fmt.{decimal, signed_decimal}
use Rattle.std.specs.Str.{bytes_eq}
use Rattle.serde_json.specs.Data.{Data}
use Rattle.tb_dap_messages.specs.Refusals.{text_of}
use Rattle.tb_dap_messages.specs.declared.refusals.Refusal.{Refusal}
use Rattle.tb_dap_messages.specs.declared.refusals.Refusal.TheVariants as refusal
use Rattle.tb_dap_values.specs.Arguments.{optional_text}
use Rattle.tb_dap_values.specs.Bodies.{all_continued_body, continued_body, exited_body, scopes_body, threads_body, typed_body}
use Rattle.tb_dap_values.specs.declared.requests.Command.{Command}
use Rattle.tb_dap_values.specs.declared.requests.Command.TheVariants as command
use Rattle.tb_dap_values.specs.declared.requests.Movement.{Movement}
use Rattle.tb_dap_values.specs.declared.requests.Movement.TheVariants as movement
use Rattle.tb_dap_views.specs.Evaluation.{HasValue, seen as value_seen}
use Rattle.tb_dap_views.specs.Sources.{is_same_file}
use Rattle.tb_dap_views.specs.declared.evaluation.Evaluated.{Evaluated}
use Rattle.tb_compiled.specs.Compiled.{warnings_of}
use Rattle.tb_debug.specs.Begins.{GoesBy, StandsBy, StepsBy}
use Rattle.tb_debug.specs.Debuggers.{KeepsRun, KeepsRunTyped, OnRun, RewindsBy, begun_by}
use Rattle.tb_debug.specs.Leading.{Continues, GoesOut, GoesOver, ReverseContinues}
use Rattle.tb_debug.specs.Leaving.{SetsBreakpoints, SetsWatches}
use Rattle.tb_debug.specs.Runs.{Point, shown as point_of}
use Rattle.tb_debug.specs.Stopping.{cause_at}
use Rattle.tb_debug.specs.Telling.{variables_here}
use Rattle.tb_debug.specs.declared.causes.Cause.{Cause}
use Rattle.tb_debug.specs.declared.causes.Cause.TheVariants as cause
use Rattle.tb_debug.specs.declared.debugger.Debugger.{Debugger}
use Rattle.tb_debug.specs.declared.moment.Reached.{Reached}
use Rattle.tb_kernal.specs.Machine.{state_of, status}
use Rattle.tb_kernal.specs.declared.status.Status.{Status}
use Rattle.tb_kernal.specs.declared.status.Status.TheVariants as status
use Rattle.tb_basic_meaning.specs.declared.missing.Warning.{Warning}
use Rattle.tb_editor_navigation.specs.Remarks.{shown}
use Rattle.tb_engine_play.specs.Lines.{keys_of_text}
use Rattle.tb_engine_streams.specs.HostForm.{host_form_of}
use Rattle.tb_words.specs.Words.{word_of}
use Rattle.tb_words.specs.declared.Letter.{Letter}
use Rattle.tb_dap_requests.specs.Asking.{Evaluation, bad, code, expression, memory, question_in, stack, typed, variables, watchable}
use Rattle.tb_dap_requests.specs.Said.{Saying, done, event, output_of, refused}
use Rattle.tb_dap_requests.specs.Setting.{Asked, breakpoints_in, index_of, elsewhere_body, letters_of, lines_of, placed_body, watched_body, watches_in}
use Rattle.tb_dap_requests.specs.Stops.{leads_back, stop_ahead, stop_behind, stop_of}
use Rattle.tb_dap_requests.specs.declared.setting.Wanted.{Wanted}
use Rattle.tb_dap_adapter.specs.declared.session.Session.{Session}
use Rattle.tb_dap_adapter.specs.declared.session.Stage.{Stage}
use Rattle.tb_dap_adapter.specs.declared.session.Stage.TheVariants.{Loaded, Started, Terminated}
use Rattle.tb_dap_requests.specs.declared.stops.Stop.{Stop}
use Rattle.tb_dap_requests.specs.declared.stops.Stop.TheVariants as stop

-- ---- what is barred

-- why a run isn't begun
abbrev pub barred_start : Stage → Option Refusal
barred_start Loaded = None
barred_start Started = Some refusal.Started
barred_start Terminated = Some refusal.Started

-- why a run isn't moved, and nothing is typed
abbrev pub barred_move : Stage → Option Refusal
barred_move Loaded = Some refusal.NotStarted
barred_move Started = None
barred_move Terminated = Some refusal.Terminated

-- why a request is refused at a stage, whatever its arguments are
abbrev pub barred : Stage → Option Command → Option Refusal
barred stage None = Some refusal.UnknownCommand
barred stage (Some command.Initialize) = Some refusal.Initialized
barred stage (Some command.Launch) = Some refusal.Launched
barred stage (Some command.Change) = Some refusal.NoChange
barred stage (Some command.ConfigurationDone) = barred_start stage
barred stage (Some (command.Move m)) = barred_move stage
barred stage (Some _) = None

-- a refusal alone
abbrev pub refused_for : Refusal → List Saying
refused_for why = refused (text_of why) false ∷ []

-- ---- movements

-- a movement may go on by one event
abbrev pub has_events : Movement → Bool
has_events movement.StepIn = true
has_events movement.Next = true
has_events movement.StepOut = true
has_events _ = false

-- a granularity is that of instructions
abbrev pub is_instruction : Option (Option (List ℕ)) → Option Bool
is_instruction (Some (Some text)) = Some (bytes_eq text (codes "instruction"))
is_instruction (Some None) = Some false
is_instruction None = None

-- instructions are gone; none where the granularity is no text
abbrev pub by_instruction : Data → Option Bool
by_instruction a = is_instruction (optional_text a (codes "granularity"))

-- a movement goes by single lines
abbrev pub is_step : Movement → Bool
is_step movement.Continue = false
is_step movement.ReverseContinue = false
is_step _ = true

-- an event that tells nothing but its name
abbrev pub plain_event : List ℕ → Saying
plain_event name = event name None

-- the exit code of a machine that ended
abbrev pub code_of : Status → ℕ
code_of (status.Wrong wrong) = 7
code_of _ = 0

-- a machine has ended
abbrev pub is_over : Status → Bool
is_over status.Returned = true
is_over (status.Wrong wrong) = true
is_over _ = false

-- what tells that a run has ended
abbrev pub end_of : Status → List Saying
end_of s = event (codes "exited") (Some (exited_body (code_of s))) ∷ plain_event (codes "terminated") ∷ []

-- a warning of a program
abbrev pub warning_of : Warning → Saying
warning_of w =
    output_of (codes "console") (codes "warning: line " ++ (decimal w.line ++ (codes ": no line " ++ (signed_decimal w.target ++ 10 ∷ []))))

-- that the clock gave a seed
abbrev pub seed_said : ℕ → Saying
seed_said seed = output_of (codes "console") (codes "the seed is " ++ (decimal seed ++ 10 ∷ []))

-- that the clock gave a seed, if it was asked for one
abbrev pub seed_told : Option ℕ → List Saying
seed_told None = []
seed_told (Some seed) = seed_said seed ∷ []

-- the answer to a launch, and which seed the clock gave
abbrev pub beginning : Option ℕ → List Saying
beginning drawn = done None ∷ seed_told drawn

-- what is said as a program is launched
abbrev pub opening : Session → List Saying
opening s = beginning s.plan.drawn ++ (map warning_of (warnings_of s.file.program.now) ++ plain_event (codes "initialized") ∷ [])

-- what is answered to a movement
abbrev pub movement_answer : Movement → Saying
movement_answer movement.Continue = done (Some all_continued_body)
movement_answer _ = done None

-- ---- stops

-- how the present machine stands
abbrev pub status_of : Session → Status
status_of s = status (state_of s.debugger.present.machine)

-- bytes that were sent, as output
abbrev pub sent_output : List ℕ → Saying
sent_output bytes = output_of (codes "stdout") (shown (host_form_of bytes))

-- bytes that were sent, as output; nothing if there are none
abbrev pub output_by : List ℕ → List Saying
output_by bytes = if length bytes == 0 then [] else sent_output bytes ∷ []

-- what was sent and never told before
abbrev pub fresh_output : Session → List Saying
fresh_output s = output_by (drop s.debugger.shown s.debugger.present.machine.sent)

-- all that was sent is told
abbrev pub all_told : Session → Session
all_told s = record s { debugger = record s.debugger { shown = max s.debugger.shown (length s.debugger.present.machine.sent) } }

-- a run that only runs has ended
abbrev pub ends_at_once : Session → Bool
ends_at_once s = s.plan.is_plain && is_over (status_of s)

-- that a run stopped, or that one has ended which only runs
abbrev pub stop_told : Stop → Session → List Saying
stop_told stop s = if ends_at_once s then end_of (status_of s) else stop_of stop s.debugger ∷ []

-- the session after that
abbrev pub stopped : Session → Session
stopped s = if ends_at_once s then record s { stage = Terminated } else s

-- what is told where a run stops, for this reason
abbrev pub settled_told : Stop → Session → List Saying
settled_told stop s = fresh_output s ++ stop_told stop (all_told s)

-- the session then
abbrev pub settled : Session → Session
settled s = stopped (all_told s)

-- it stops, and this is told after what was said before
pub record Settles (stop : Stop) (s : Session) (before told : List Saying) (t : Session) : Type 0 where
  pub said : told ≡ before ++ settled_told stop s
  pub now : t ≡ settled s

-- ---- ways

-- a debugger on the same run, with the same breakpoints and watches, and nothing more was told
pub record Walked (d e : Debugger) : Type 0 where
  pub run : KeepsRun d e
  pub stops : e.stops ≡ d.stops
  pub shown : e.shown ≡ d.shown

-- a way on by one event
abbrev pub GoesEvent : Debugger → Reached → Debugger → Type 0
GoesEvent d reached e = StepsBy 1 d.present e.present

-- a way on by one line
abbrev pub GoesLine : ℕ → Debugger → Reached → Debugger → Type 0
GoesLine limit d reached e = (start : Point) → OnRun start d → GoesBy 1 d.starts start limit reached d.present e.present

-- a way on of a movement, by at most `limit` events: to a breakpoint or a watch, over a GOSUB, out of a subroutine, or by a line
abbrev pub GoesAhead : Movement → Bool → ℕ → Debugger → Reached → Debugger → Type 0
GoesAhead m true limit d reached e = GoesEvent d reached e
GoesAhead movement.Continue false limit d reached e = Continues limit d reached e.present
GoesAhead movement.Next false limit d reached e = GoesOver limit d reached e.present
GoesAhead movement.StepOut false limit d reached e = GoesOut limit d reached e.present
GoesAhead m false limit d reached e = GoesLine limit d reached e

-- a session after such a way, with how it stands
pub record WalksOn (m : Movement) (events : Bool) (s : Session) (reached : Reached) (t : Session) : Type 0 where
  pub walked : Walked s.debugger t.debugger
  pub ahead : GoesAhead m events s.plan.limit s.debugger reached t.debugger
  pub stands : StandsBy s.debugger.starts reached t.debugger.present
  pub others : t ≡ record s { debugger = t.debugger }

-- a way back of a movement: by one line, or to a breakpoint or to a line that changes what is watched
abbrev pub GoesBehind : Bool → Debugger → Reached → Debugger → Type 0
GoesBehind true d reached e = RewindsBy 1 d reached e.present
GoesBehind false d reached e = ReverseContinues d reached e.present

-- a session after such a way
pub record WalksBack (is_single : Bool) (s : Session) (reached : Reached) (t : Session) : Type 0 where
  pub walked : Walked s.debugger t.debugger
  pub behind : GoesBehind is_single s.debugger reached t.debugger
  pub stands : StandsBy s.debugger.starts reached t.debugger.present
  pub others : t ≡ record s { debugger = t.debugger }

-- why a way on would stop where a session is; an event that was gone on is a step
abbrev pub cause_here : Session → Option Cause
cause_here s = cause_at s.debugger.debuggee s.debugger.stops (point_of s.debugger.present)

abbrev pub cause_by : Bool → Session → Option Cause
cause_by events s = if events then None else cause_here s

-- why a way on stopped
abbrev pub stop_after : Bool → Reached → Session → Stop
stop_after events reached s = stop_ahead reached (cause_by events s) s.plan.limit s.debugger.present.machine.regs.pc

-- the movement that goes on after a wait for a key is one by single lines, or isn't
abbrev pub noted : Movement → Session → Session
noted m s = record s { steps = is_step m }

-- it goes on, and tells where it stops
pub record GoesOn (m : Movement) (events : Bool) (s : Session) (before told : List Saying) (t : Session) : Type 0 where
  pub reached : Reached
  pub there : Session
  pub way : WalksOn m events s reached there
  pub stops : Settles (stop_after events reached (noted m there)) (noted m there) before told t

-- it goes back, and tells where it stops
pub record GoesBack (m : Movement) (s : Session) (before told : List Saying) (t : Session) : Type 0 where
  pub reached : Reached
  pub there : Session
  pub way : WalksBack (is_step m) s reached there
  pub stops : Settles (stop_behind (cause_here there) (begun_by there.debugger) (is_step m) (nat_lt 0 (begun_by s.debugger))) there before told t

-- ---- the beginning

-- the run was begun
abbrev pub begun : Session → Session
begun s = record s { stage = Started }

-- a run begins at a line of this breakpoint, or goes on
abbrev pub BeginsBy : Option Cause → Session → (before told : List Saying) → Session → Type 0
BeginsBy (Some (cause.Breakpoint line)) s before told t = Settles (stop.Breakpoint line) s before told t
BeginsBy (Some (cause.Watch letter)) s before told t = GoesOn movement.Continue false s before told t
BeginsBy None s before told t = GoesOn movement.Continue false s before told t

-- a run begins, by whether it stops at the entry
abbrev pub BeginsAt : Bool → Session → (before told : List Saying) → Session → Type 0
BeginsAt true s before told t = Settles stop.Entry s before told t
BeginsAt false s before told t = BeginsBy (cause_here s) s before told t

-- a run begins, by whether it only runs
abbrev pub Begins : Bool → Session → (before told : List Saying) → Session → Type 0
Begins true s before told t = GoesOn movement.Continue false s before told t
Begins false s before told t = BeginsAt s.plan.stops_on_entry s before told t

-- what is said as a run is begun
abbrev pub Starts : Session → List Saying → Session → Type 0
Starts s told t = Begins s.plan.is_plain (begun s) (done None ∷ []) told t

-- ---- the end

-- the run can't be moved any more
abbrev pub terminated : Session → Session
terminated s = record s { stage = Terminated }

-- it ends for good, and this is told
pub record EndsForGood (s : Session) (before told : List Saying) (t : Session) : Type 0 where
  pub said : told ≡ before ++ end_of (status_of s)
  pub now : t ≡ terminated s

-- the run goes on, or ends for good where it is over
abbrev pub GoesOnOrEnds : Bool → Movement → Bool → Session → (before told : List Saying) → Session → Type 0
GoesOnOrEnds true m events s before told t = EndsForGood s before told t
GoesOnOrEnds false m events s before told t = GoesOn m events s before told t

-- the run moves
abbrev pub MovesTo : Bool → Movement → Bool → Session → (before told : List Saying) → Session → Type 0
MovesTo true m events s before told t = GoesBack m s before told t
MovesTo false m events s before told t = GoesOnOrEnds (is_over (status_of s)) m events s before told t

-- nothing changes, and this is said
pub record Stays (s : Session) (one : Saying) (told : List Saying) (t : Session) : Type 0 where
  pub said : told ≡ one ∷ []
  pub now : t ≡ s

-- what comes of a movement, by whether instructions are gone
abbrev pub Moves : Option Bool → Movement → Session → List Saying → Session → Type 0
Moves (Some instructions) m s told t =
    MovesTo (leads_back m) m (instructions && has_events m) s (movement_answer m ∷ []) told t
Moves None m s told t = Stays s bad told t

-- the run is terminated
pub record Terminates (s : Session) (told : List Saying) (t : Session) : Type 0 where
  pub said : told ≡ done None ∷ plain_event (codes "terminated") ∷ []
  pub now : t ≡ terminated s

-- ---- typing

-- how many bytes may be typed in all
abbrev pub most_typed : ℕ
most_typed = 1048576

-- keys are typed: the run is that with these keys at the end of the keyboard's text, and it stays where it is
pub record Types (keys : List ℕ) (s : Session) (t : Session) : Type 0 where
  pub run : KeepsRunTyped keys s.debugger t.debugger
  pub shown : t.debugger.shown ≡ s.debugger.shown
  pub stops : t.debugger.stops ≡ s.debugger.stops
  pub point : t.debugger.present.events ≡ s.debugger.present.events
  pub others : t ≡ record s { debugger = t.debugger; typed = s.typed + length keys }

-- the machine waits for a key
abbrev pub waits : Status → Bool
waits status.Waits = true
waits _ = false

-- the movement that goes on after a wait
abbrev pub resumed : Bool → Movement
resumed true = movement.StepIn
resumed false = movement.Continue

-- that keys were typed, and that the run goes on
abbrev pub typed_and_continued : List Saying
typed_and_continued = done (Some typed_body) ∷ event (codes "continued") (Some continued_body) ∷ []

-- what comes of keys that were typed: where the machine waited, the movement goes on that ended in the wait
abbrev pub Resumes : Bool → Session → List Saying → Session → Type 0
Resumes true s told t =
    GoesOn (resumed s.steps) false s typed_and_continued told t
Resumes false s told t = Stays s (done (Some typed_body)) told t

-- a line is typed, if it isn't too much
abbrev pub TakesKeys : Bool → List ℕ → Session → List Saying → Session → Type 0
TakesKeys true keys s told t = Stays s (refused (text_of refusal.TooMuchTyped) false) told t
TakesKeys false keys s told t = (u : Session) × Types keys s u × Resumes (waits (status_of s)) u told t

abbrev pub TakesLine : List ℕ → Session → List Saying → Session → Type 0
TakesLine line s told t = TakesKeys (nat_lt (most_typed - s.typed) (length (keys_of_text line))) (keys_of_text line) s told t

-- a line is typed, if the stage has no refusal for it and it isn't too much
abbrev pub TypesLine : Option Refusal → List ℕ → Session → List Saying → Session → Type 0
TypesLine (Some why) line s told t = Stays s (refused (text_of why) false) told t
TypesLine None line s told t = TakesLine line s told t

-- an answer, or why there is none
abbrev pub valued : Result Data (List ℕ) → Saying
valued (Ok body) = done (Some body)
valued (Err why) = refused why false

-- what comes of an expression, or of a line that is typed
abbrev pub Evaluates : Option Evaluation → Session → List Saying → Session → Type 0
Evaluates (Some (typed line)) s told t = TypesLine (barred_move s.stage) line s told t
Evaluates (Some (expression text)) s told t =
    (e : Evaluated) × HasValue (map word_of (variables_here s.debugger)) text e × Stays s (valued (value_seen e)) told t
Evaluates None s told t = Stays s bad told t

-- ---- breakpoints and watches

-- these lines have a breakpoint then, and no others; in a run that only runs nothing changes
abbrev pub Breaks : Bool → List ℕ → Session → Session → Type 0
Breaks true lines s t = t ≡ s
Breaks false lines s t = SetsBreakpoints lines s.debugger t.debugger × (t ≡ record s { debugger = t.debugger })

-- breakpoints are set, and answered
pub record PlacesLines (lines : List Wanted) (s : Session) (told : List Saying) (t : Session) : Type 0 where
  pub said : told ≡ done (Some (placed_body s.file lines)) ∷ []
  pub set : Breaks s.plan.is_plain (lines_of s.file lines) s t

-- breakpoints are set, and answered, if they are asked for in the program's file; else they are only answered
abbrev pub PlacesIn : Bool → Asked → Session → List Saying → Session → Type 0
PlacesIn true a s told t = PlacesLines a.lines s told t
PlacesIn false a s told t = Stays s (done (Some (elsewhere_body (length a.lines)))) told t

abbrev pub PlacesAsked : Option Asked → Session → List Saying → Session → Type 0
PlacesAsked (Some a) s told t = PlacesIn (is_same_file a.path s.file.path.now) a s told t
PlacesAsked None s told t = Stays s bad told t

-- these variables are watched then, and no others; in a run that only runs nothing changes
abbrev pub Watches : Bool → List Letter → Session → Session → Type 0
Watches true letters s t = t ≡ s
Watches false letters s t = SetsWatches letters s.debugger t.debugger × (t ≡ record s { debugger = t.debugger })

-- watches are set, and answered
pub record PlacesWatches (letters : List (Option Letter)) (s : Session) (told : List Saying) (t : Session) : Type 0 where
  pub said : told ≡ done (Some (watched_body letters)) ∷ []
  pub set : Watches s.plan.is_plain (letters_of letters) s t

-- watches are set of the variables with these indices in the alphabet, and answered
abbrev pub WatchesAsked : Option (List (Option ℕ)) → Session → List Saying → Session → Type 0
WatchesAsked (Some indices) s told t = (letters : List (Option Letter)) × (map index_of letters ≡ indices) × PlacesWatches letters s told t
WatchesAsked None s told t = Stays s bad told t

-- ---- requests

-- what is said to a request that moves nothing and sets nothing
abbrev pub look : Command → Data → Session → Saying
look command.Threads a s = done (Some (threads_body s.file.path.now))
look command.StackTrace a s = stack s.file s.debugger a
look command.Scopes a s = done (Some scopes_body)
look command.Variables a s = variables s.debugger a
look command.ReadMemory a s = memory s.debugger a
look command.Disassemble a s = code s.file s.debugger a
look command.DataBreakpointInfo a s = watchable a
look _ a s = done None

-- what comes of a request that isn't barred
abbrev pub Answers : Command → Data → Session → List Saying → Session → Type 0
Answers command.ConfigurationDone a s told t = Starts s told t
Answers (command.Move m) a s told t = Moves (by_instruction a) m s told t
Answers command.Terminate a s told t = Terminates s told t
Answers command.Evaluate a s told t = Evaluates (question_in a) s told t
Answers command.SetBreakpoints a s told t = PlacesAsked (breakpoints_in a) s told t
Answers command.SetDataBreakpoints a s told t = WatchesAsked (watches_in a) s told t
Answers c a s told t = Stays s (look c a s) told t

-- what comes of a request, by why it is barred
abbrev pub TakesBy : Option Refusal → Option Command → Data → Session → List Saying → Session → Type 0
TakesBy (Some why) c a s told t = Stays s (refused (text_of why) false) told t
TakesBy None (Some c) a s told t = Answers c a s told t
TakesBy None None a s told t = ⊥

-- what comes of a request
abbrev pub Takes : Option Command → Data → Session → List Saying → Session → Type 0
Takes c a s told t = TakesBy (barred s.stage c) c a s told t
