-- What is said before a program is launched.
use Rattle.std.specs.Prelude.{ℕ, ◌≡◌, Bool, false, IfOk, List, map, Option, Some, None, Result, Ok, Err}
use Rattle.std.specs.declared.alloc.AllocError.{AllocError}
use Rattle.serde_json.specs.Data.{Data}
use Rattle.serde_json.specs.View.{view}
use Rattle.tb_dap_messages.specs.Requests.{Asked, asked_in, no_message, passed, request}
use Rattle.tb_dap_messages.specs.declared.refusals.Refusal.{Refusal}
use Rattle.tb_dap_messages.specs.declared.refusals.Refusal.TheVariants as refusal
use Rattle.tb_dap_requests.specs.Said.{seen}
use Rattle.tb_dap_requests.specs.declared.launching.Usual.{Usual}
use Rattle.tb_dap_requests.specs.declared.loading.Loaded.{Loaded}
use Rattle.tb_dap_values.specs.Requests.{command_of}
use Rattle.tb_editor_dialogue.specs.Dialogue.{Converses, Streams, moment}
use Rattle.tb_editor_dialogue.specs.declared.hearing.Heard.{Heard}
use Rattle.tb_editor_dialogue.specs.declared.hearing.Heard.TheVariants as heard
use Rattle.tb_editor_dialogue.specs.declared.talking.Turn.{Turn}
use Rattle.tb_editor_frames.specs.declared.outcome.BadFrame.{BadFrame}
use Rattle.tb_engine_streams.specs.declared.outcome.Outcome.{Outcome}
use Rattle.tb_engine_streams.specs.declared.outcome.Outcome.TheVariants.{Ended, Refused, ReadFault, WriteFault, NoMemory}
use Rattle.tb_engine_streams.specs.declared.stream.InputError.{InputError}
use Rattle.tb_dap_adapter.specs.Greeting.{Greets}
use Rattle.tb_dap_adapter.specs.Outcomes.{AdapterOutcome}
use Rattle.tb_dap_adapter.specs.Talking.{Complains, SaysAndEnds, end_by, given, silence}
use Rattle.tb_dap_adapter.specs.declared.greeting.Greeting.{Greeting}
use Rattle.tb_dap_adapter.specs.declared.greeting.Greeting.TheVariants as greeting
use Rattle.tb_dap_adapter.specs.declared.waiting.Greeter.{Greeter}
use Rattle.tb_dap_adapter.specs.declared.waiting.Launched.{Launched}
use Rattle.tb_dap_adapter.specs.declared.waiting.Waited.{Waited}
use Rattle.tb_dap_adapter.specs.declared.waiting.Waited.TheVariants as waited
use Rattle.tb_compiled.specs.Promise.{Own}

-- an adapter before a launch: whether it was initialized, its sources, and the number of its next message
pub record Early (S : Type 0) : Type 0 where
  pub initialized : Bool
  pub sources : S
  pub next : ℕ

abbrev pub early : {S : Type 0} → Bool → S → ℕ → Early S
early initialized sources next = record { initialized = initialized; sources = sources; next = next }

-- how sources are read
abbrev pub Reading : Type 0 → Type 1
Reading S = S → List ℕ → Result (List ℕ) InputError → S → Type 0

-- what a launch leads to
abbrev pub launched : Loaded → ℕ → Launched
launched l asked = record { loaded = l; asked = asked }

-- what a greeting says is a turn, or a program is launched
abbrev pub SaysGreeting : (asked : ℕ) → List ℕ → Greeting → Option Waited → Turn Waited → (next next_after : ℕ) → Type 0
SaysGreeting asked c (greeting.Said told) end turn next next' = SaysAndEnds asked c (map seen told.items) end turn next next'
SaysGreeting asked c (greeting.Launched l) end turn next next' =
    (turn.frames ≡ None) × (turn.end ≡ Some (waited.Launched (launched l asked))) × (next' ≡ next)

-- a request is taken by an adapter that has something for a launch
abbrev pub GreetsRequest : {S : Type 0} → Own → Reading S → Usual → (asked : ℕ) → List ℕ → Data → Early S → Turn Waited → Early S → Type 0
GreetsRequest own reads usual asked c arguments s turn t =
    (g : Greeting) × Greets own reads usual (command_of c) arguments s.initialized s.sources g t.initialized t.sources
    × SaysGreeting asked c g (end_by (command_of c) waited.Done) turn s.next t.next

-- it is said of a frame that it is no message, and nothing else changes
abbrev pub Refuses : {S : Type 0} → Refusal → Early S → Result (Turn Waited) AllocError → Early S → Type 0
Refuses why s (Ok turn) t = Complains why turn s.next t.next × (t.initialized ≡ s.initialized) × (t.sources ≡ s.sources)
Refuses why s (Err e) t = (t.initialized ≡ s.initialized) × (t.sources ≡ s.sources)

-- a message is taken, if memory does not run out
abbrev pub GreetsMessage : {S : Type 0} → Own → Reading S → Usual → Asked → Early S → Result (Turn Waited) AllocError → Early S → Type 0
GreetsMessage own reads usual (request seq c arguments) s result t = IfOk result (λ turn. GreetsRequest own reads usual seq c (given arguments) s turn t)
GreetsMessage own reads usual passed s result t = (result ≡ Ok silence) × (t ≡ s)
GreetsMessage own reads usual no_message s result t = Refuses refusal.NoMessage s result t

-- what is heard is taken
abbrev pub GreetsHeard : {S : Type 0} → Own → (S → List ℕ → Result (List ℕ) InputError → S → Type 0) → Usual → Early S → Heard → Result (Turn Waited) AllocError → Early S → Type 0
GreetsHeard own reads usual s (heard.Value v) result t = GreetsMessage own reads usual (asked_in (view v)) s result t
GreetsHeard own reads usual s heard.NoJson result t = Refuses refusal.NoJson s result t
GreetsHeard own reads usual s heard.TooLarge result t = Refuses refusal.TooLarge s result t

-- ── who waits ──
-- what one who waits is
abbrev pub early_of : {K S : Type 0} → Greeter K S → Early S
early_of s = early s.initialized s.sources.now s.next

-- what stays as it is: what is usual, and where its sources are
abbrev pub IsSame : {K S : Type 0} → Greeter K S → Greeter K S → Type 0
IsSame s t = (t.usual ≡ s.usual) × (t.sources.ghost_name ≡ s.sources.ghost_name)

abbrev pub TakesIt : {K S : Type 0} → Own → (S → List ℕ → Result (List ℕ) InputError → S → Type 0) → Greeter K S → Heard → Result (Turn Waited) AllocError → Greeter K S → Type 0
TakesIt own reads s h result t = IsSame s t × GreetsHeard own reads s.usual (early_of s) h result (early_of t)

-- the dialogue ends before a launch
abbrev pub EndsUnlaunched : Waited → Type 0
EndsUnlaunched end = end ≡ waited.Done

-- a dialogue up to a launch or the end, with the number of the next message then
abbrev pub Leads : {S : Type 0} → Own → (S → List ℕ → Result (List ℕ) InputError → S → Type 0) → Usual → Early S → Streams → Outcome Waited BadFrame → S → ℕ → Streams → Type 0
Leads own reads usual first a outcome t next b =
    (initialized : Bool) × Converses (GreetsHeard own reads usual) (λ s end. EndsUnlaunched end) (moment first a) outcome (moment (early initialized t next) b)

-- a dialogue up to a launch or the end, of an adapter that was not initialized and has said nothing
abbrev pub Waits : {S : Type 0} → Own → (S → List ℕ → Result (List ℕ) InputError → S → Type 0) → Usual → S → Streams → Outcome Waited BadFrame → S → ℕ → Streams → Type 0
Waits own reads usual s a outcome t next b = Leads own reads usual (early false s 1) a outcome t next b

-- what was launched, or how the dialogue ended before
abbrev pub launched_by : Outcome Waited BadFrame → Result Launched AdapterOutcome
launched_by (Ended (waited.Launched l)) = Ok l
launched_by (Ended waited.Done) = Err (Ended (record {}))
launched_by (Refused bad) = Err (Refused bad)
launched_by ReadFault = Err ReadFault
launched_by WriteFault = Err WriteFault
launched_by NoMemory = Err NoMemory
