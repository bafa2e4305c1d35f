-- A history of machines, and its steps.
use Rattle.std.specs.Prelude.{ℕ, ◌≡◌, ◌<◌, ◌≤◌, nat_lt, suc, zero, Err, ◌&&◌, ◌==◌, Bool, true, false, [], ◌∷◌, ◌++◌, Option, Some, None, Result, Ok, MatchResult}
use Rattle.circular_buffer.specs.Buffer.{keep_last}
use Rattle.std.specs.declared.alloc.AllocError.{AllocError}
use Rattle.tb_kernal.specs.declared.events.Event.{Event}
use Rattle.tb_kernal.specs.declared.status.Status.{Status}
use Rattle.tb_kernal.specs.Machine.{State, Content, state_of, status, is_stopped, happens}
use Rattle.tb_kernal.specs.declared.status.Status.TheVariants.{Running}
use Rattle.tb_compiled.specs.Compiled.{starts_of, table_of, line_in, start_in}
use Rattle.tb_compiled.specs.declared.compiled.Compiled.{Compiled}
use Rattle.tb_stepper.specs.declared.reached.StepError.{StepError}
use Rattle.tb_stepper.specs.declared.reached.StepError.TheVariants.{NoSuchLine, NoMemory as NoRoom}
use Rattle.tb_stepper.specs.declared.reached.Reached.{Reached}
use Rattle.tb_stepper.specs.declared.reached.Reached.TheVariants.{There, Stopped, Limit}
pub use Rattle.tb_stepper.specs.Holding.{Holds, machines}

-- one event that the outside gave to the machine, for which room may have been made, and the machine after it; at most 1,001 machines are kept
pub record Added {O : Type 0} (gives : O → Content → Event → O → Type 0) (h k : Holds O) : Type 0 where
  pub ready : Content
  pub event : Event
  pub same : state_of ready ≡ state_of h.machine
  pub given : gives h.outside ready event k.outside
  pub happened : state_of k.machine ≡ happens (state_of h.machine) event
  pub program : k.program ≡ h.program
  pub kept : machines k ≡ keep_last 1001 (machines h ++ state_of k.machine ∷ [])

-- a step of a machine that isn't stopped; AllocError comes only if there is no room, and changes nothing
abbrev pub Moved : {O : Type 0} → (O → Content → Event → O → Type 0) → Holds O → Result Status AllocError → Holds O → Type 0
Moved gives h result k =
    MatchResult result
    (λ t. Added gives h k × (t ≡ status (state_of k.machine)))
    (λ _. (h.machine.room ≡ 0) × (k ≡ h))

-- a step by whether the machine is stopped: a stopped one stays as it is, and nobody is asked
abbrev pub SteppedBy : {O : Type 0} → Bool → (O → Content → Event → O → Type 0) → Holds O → Result Status AllocError → Holds O → Type 0
SteppedBy true gives h result k = (result ≡ Ok (status (state_of h.machine))) × (k ≡ h)
SteppedBy false gives h result k = Moved gives h result k

-- a step
abbrev pub Stepped : {O : Type 0} → (O → Content → Event → O → Type 0) → Holds O → Result Status AllocError → Holds O → Type 0
Stepped gives h result k = SteppedBy (is_stopped (status (state_of h.machine))) gives h result k

-- why a walk ends in a state, its limit aside: PC is there after a step, else the machine isn't Running
abbrev pub end_by : Bool → Status → Option Reached
end_by true t = Some There
end_by false Running = None
end_by false t = Some (Stopped t)

-- why a walk to an address ends in a state, its limit aside, and None if it goes on; moved: a step was taken
abbrev pub end_at : ℕ → Bool → State → Option Reached
end_at address moved s = end_by (moved && s.regs.pc == address) (status s)

-- a walk of n steps, none of which was taken where a walk ends
abbrev pub Walked : {O : Type 0} → (O → Content → Event → O → Type 0) → ℕ → ℕ → Holds O → Holds O → Type 0
Walked gives address zero h k = k ≡ h
Walked {O} gives address (suc n) h k =
    (b : Holds O) × Walked gives address n h b × (end_at address (nat_lt 0 n) (state_of b.machine) ≡ None) × Stepped gives b (Ok (status (state_of k.machine))) k

-- what is answered after n steps: where the walk ends, else that the limit is reached
abbrev pub Answers : Option Reached → ℕ → ℕ → Reached → Type 0
Answers (Some e) n limit answer = answer ≡ e
Answers None n limit answer = (answer ≡ Limit) × (n ≡ limit)

-- a walk to an address: the steps and the answer; NoMemory comes before a step for which there was no room
pub record Reaches {O : Type 0} (gives : O → Content → Event → O → Type 0) (address limit : ℕ) (h : Holds O) (result : Result Reached AllocError) (k : Holds O) : Type 0 where
  pub steps : ℕ
  pub walked : Walked gives address steps h k
  pub few : steps ≤ limit
  pub answer : MatchResult result
      (λ answer. Answers (end_at address (nat_lt 0 steps) (state_of k.machine)) steps limit answer)
      (λ _. (end_at address (nat_lt 0 steps) (state_of k.machine) ≡ None) × (steps < limit) × (k.machine.room ≡ 0))

-- a walk to an address, with want of memory as a walk to a line answers it
abbrev pub ReachesStart : {O : Type 0} → (O → Content → Event → O → Type 0) → ℕ → ℕ → Holds O → Result Reached StepError → Holds O → Type 0
ReachesStart gives address limit h (Ok answer) k = Reaches gives address limit h (Ok answer) k
ReachesStart gives address limit h (Err NoRoom) k = (e : AllocError) × Reaches gives address limit h (Err e) k
ReachesStart gives address limit h (Err NoSuchLine) k = ⊥

-- a walk to where a line begins; without such a line nothing changes
abbrev pub ReachesLine : {O : Type 0} → (O → Content → Event → O → Type 0) → Option ℕ → ℕ → Holds O → Result Reached StepError → Holds O → Type 0
ReachesLine gives None limit h result k = (result ≡ Err NoSuchLine) × (k ≡ h)
ReachesLine gives (Some address) limit h result k = ReachesStart gives address limit h result k

-- where a line begins; none does without a source
abbrev pub begins_at : Option Compiled → ℕ → Option ℕ
begins_at None line = None
begins_at (Some program) line = start_in (starts_of program) line

-- the line in whose code an address is; none without a source
abbrev pub line_of : Option Compiled → ℕ → Option ℕ
line_of None address = None
line_of (Some program) address = line_in (starts_of program) (table_of program) address
