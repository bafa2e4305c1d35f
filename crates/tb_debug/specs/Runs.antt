-- The run of a machine with a ROM, and its moments.
use Rattle.std.specs.Prelude.{◌≡◌, ℕ, zero, suc, ◌+◌, ◌-◌, ◌<◌, ◌≤◌, ◌==◌, ◌&&◌, ◌||◌, Bool, false, if◌then◌else◌}
use Rattle.std.specs.Prelude.{ℤ, List, [], ◌∷◌, ◌++◌, All, AllPairs, length, slice_index_or, remove}
use Rattle.tb_kernal.specs.declared.events.Event.{Event}
use Rattle.tb_kernal.specs.declared.status.Status.TheVariants.{Running}
use Rattle.tb_kernal.specs.Machine.{State, state_of, happens, status}
use Rattle.tb_kernal.specs.Typing.{with_more}
use Rattle.tb_kernal.specs.Runs.{is_own}
use Rattle.tb_debug.specs.Roms.{after, event_at}
use Rattle.tb_debug_inspection.specs.Readings.{values_in}
use Rattle.tb_debug.specs.declared.rom.Rom.{Rom}
use Rattle.tb_debug.specs.declared.history.Checkpoint.{Checkpoint}
use Rattle.tb_debug.specs.declared.moment.Moment.{Moment}

-- ---- where lines begin

-- a line begins at an address; the lines are given by their numbers and the addresses where they begin
abbrev pub begins_at : List (ℕ × ℕ) → ℕ → Bool
begins_at [] a = false
begins_at (s ∷ starts) a = (a == s.1) || begins_at starts a

-- a line begins at an address, by marks of all addresses
abbrev pub is_marked : List Bool → ℕ → Bool
is_marked marks a = slice_index_or marks a false

-- an event that begins a line: one of the program's own, at an address where a line begins
abbrev pub is_begin : List Bool → State → Event → Bool
is_begin marks s e = is_own e && is_marked marks s.regs.pc

-- ---- the run

-- a point of a run: the machine, its ROM, how many lines were begun, where the last of them begins, and the
-- variables as it began; as the run began, if none was
pub record Point : Type 0 where
  pub state : State
  pub rom : Rom
  pub begun : ℕ
  pub last : ℕ
  pub opened : List ℤ

-- where a run starts
abbrev pub first_point : State → Rom → Point
first_point s rom = record { state = s; rom = rom; begun = 0; last = 0; opened = values_in s.mem }

-- the point after an event
abbrev pub behind : List Bool → Point → Event → Point
behind marks p e =
    record {
      state = happens p.state e;
      rom = after p.rom;
      begun = p.begun + (if is_begin marks p.state e then 1 else 0);
      last = if is_begin marks p.state e then p.state.regs.pc else p.last;
      opened = if is_begin marks p.state e then values_in p.state.mem else p.opened;
    }

-- the point after the event that the ROM gives there
abbrev pub next_point : List Bool → Point → Point
next_point marks p = behind marks p (event_at p.rom p.state.regs)

-- the point after n events: the run is a function of its start
unfoldable pub point_at : List Bool → Point → ℕ → Point
point_at marks start zero = start
point_at marks start (suc n) = next_point marks (point_at marks start n)

-- the machine runs at each point before the one after n events
abbrev pub RunsUpTo : List Bool → Point → ℕ → Type 0
RunsUpTo marks start n = (k : ℕ) → k < n → status (point_at marks start k).state ≡ Running

-- ---- moments

-- the point of a run that a moment shows
abbrev pub shown : Moment → Point
shown m = record { state = state_of m.machine; rom = m.rom; begun = m.begun; last = m.last; opened = m.opened }

-- a moment of the run from a start: it shows the point after as many events as it counts, before each of which the machine ran
pub record IsOfRun (marks : List Bool) (start : Point) (m : Moment) : Type 0 where
  pub stands : shown m ≡ point_at marks start m.events
  pub ran : RunsUpTo marks start m.events

-- from one moment to a later one of the same run, whatever its start
pub record StaysOnRun (marks : List Bool) (m n : Moment) : Type 0 where
  pub on : (start : Point) → IsOfRun marks start m → IsOfRun marks start n
  pub later : m.events ≤ n.events

-- ---- checkpoints

-- a point without what was sent
abbrev pub unsent : Point → Point
unsent p = record p { state = record p.state { sent = [] } }

-- a checkpoint of the run from a start: it shows its point but for what was sent, and counts that
pub record IsCheckpoint (marks : List Bool) (start : Point) (k : Checkpoint) : Type 0 where
  pub stands : shown k.moment ≡ unsent (point_at marks start k.moment.events)
  pub counts : k.sent ≡ length (point_at marks start k.moment.events).state.sent

-- the checkpoint of the run's first moment
abbrev pub IsFirst : List Bool → Point → Checkpoint → Type 0
IsFirst marks start k = IsCheckpoint marks start k × (k.moment.events ≡ 0)

-- checkpoints of the run from a start, of its first n events
abbrev pub AreCheckpoints : List Bool → Point → ℕ → List Checkpoint → Type 0
AreCheckpoints marks start n ks = All (λ k. IsCheckpoint marks start k × (k.moment.events ≤ n)) ks

-- how many checkpoints there are at most, the run's first one among them
abbrev pub most_checkpoints : ℕ
most_checkpoints = 32

-- how many events lie between a checkpoint and the next one at least
abbrev pub spacing : ℕ
spacing = 131072

-- the newest checkpoint, by the first one and the later ones
abbrev pub newest : Checkpoint → List Checkpoint → Checkpoint
newest first later = slice_index_or later (length later - 1) first

-- how many events came before it
abbrev pub newest_events : Checkpoint → List Checkpoint → ℕ
newest_events first later = (newest first later).moment.events

-- each checkpoint comes at least the spacing after each one before it
abbrev pub AreSpaced : List Checkpoint → Type 0
AreSpaced ks = AllPairs (λ k l. k.moment.events + spacing ≤ l.moment.events) ks

-- checkpoints, one of them left out
pub record WithoutOne (old new : List Checkpoint) : Type 0 where
  pub index : ℕ
  pub inside : index < length old
  pub others : new ≡ remove old index

-- checkpoints with one more after them: all that were, but for one of them if there are as many as may be
pub record KeepsOneMore (old new : List Checkpoint) : Type 0 where
  pub left : List Checkpoint
  pub newest : Checkpoint
  pub joined : new ≡ left ++ newest ∷ []
  pub all : length old + 1 < most_checkpoints → left ≡ old
  pub one : most_checkpoints ≤ length old + 1 → WithoutOne old left

-- ---- typing

-- a point with more at the end of the keyboard's text
abbrev pub typed : List ℕ → Point → Point
typed more p = record p { state = with_more more p.state }

-- a moment is another one with more at the end of the keyboard's text
pub record IsTyped (more : List ℕ) (m n : Moment) : Type 0 where
  pub point : shown n ≡ typed more (shown m)
  pub events : n.events ≡ m.events

-- checkpoints are as many others, each with more at the end of the keyboard's text
pub record AreTyped (more : List ℕ) (ks ls : List Checkpoint) : Type 0 where
  pub many : length ls ≡ length ks
  pub each : (i : ℕ) (d : Checkpoint) → i < length ks → IsTyped more (slice_index_or ks i d).moment (slice_index_or ls i d).moment
  pub sent : (i : ℕ) (d : Checkpoint) → i < length ks → (slice_index_or ls i d).sent ≡ (slice_index_or ks i d).sent
