-- How a view of the machine represents a state of the slot code.
use Rattle.std.specs.Prelude.{◌≡◌, ℕ, ◌%◌, ◌≤◌, ◌<◌, Bool, false, List, [], ◌∷◌, length, map, slice_index}
use Rattle.tb_cpu.specs.Effects.{bit}
use Rattle.tb_machine_reaching.specs.View.{View, Setup}
use Rattle.tb_machine_reaching.specs.Start.{IsHome}
use Rattle.tb_basic_meaning.specs.Steps.{Step, Goes, Stops, Ended, Faulted, Waits}
use Rattle.tb_basic_meaning.specs.Control.{Place, State}
use Rattle.tb_lower.specs.Slots.{SlotState}
use Rattle.tb_compiled_kept.specs.Addresses.{COLUMN, OPEN, NOTES, var_at}
use Rattle.tb_opcodes.specs.Bytes.{AreBytes}
use Rattle.tb_proof_simulation.specs.Layout.{Layout, place_address}
use Rattle.tb_runtime16.specs.Routines.{WordAt, SeedAt, AreReturns, Entered, Here, Waiting}

-- the addresses of the places to return to
abbrev pub return_addresses : Layout → List Place → List ℕ
return_addresses ly ps = map (place_address ly) ps

-- the memory holds the state
pub record HoldsState (ly : Layout) (s : State) (m : ℕ → ℕ) : Type 0 where
  pub vars : (x : ℕ) → x < 26 → WordAt m (var_at x) (slice_index s.vars x)
  pub column : m COLUMN ≡ s.column % 256
  pub opened : m OPEN ≡ bit s.open_line
  pub seeded : SeedAt m ly.seed s.seed
  pub count : WordAt m NOTES (length s.returns)
  pub returns : AreReturns m (return_addresses ly s.returns)
  pub few : length s.returns ≤ 500
  pub all_vars : length s.vars ≡ 26

-- at an address with a known Z, or with a known C
pub record Flagged (at : ℕ) (bs : List ℕ) (m : ℕ → ℕ) (text answers : List ℕ) (z : Bool) (w : View) : Type 0 where
  pub here : Here at bs m text answers w
  pub zero : w.regs.flags.z ≡ z

pub record Carrying (at : ℕ) (bs : List ℕ) (m : ℕ → ℕ) (text answers : List ℕ) (c : Bool) (w : View) : Type 0 where
  pub here : Here at bs m text answers w
  pub carry : w.regs.flags.c ≡ c

-- the keyboard's text has at most this length, and it and the answers are bytes
pub record Typable (keys : ℕ) (text answers : List ℕ) : Type 0 where
  pub short : length text ≤ keys
  pub text_bytes : AreBytes text
  pub answer_bytes : AreBytes answers

-- a run is at the beginning of a place, and the memory holds its state
pub record Opens (ly : Layout) (f : Setup) (lo hi : ℕ) (keys : ℕ) (s : State) (w : View) : Type 0 where
  pub pc : w.regs.pc ≡ place_address ly s.place
  pub stack : w.stack ≡ lo ∷ hi ∷ []
  pub binary : w.regs.flags.d ≡ false
  pub text : w.text ≡ s.text
  pub answers : w.answers ≡ s.answers
  pub holds : HoldsState ly s w.mem
  pub homed : Entered f lo hi w.mem
  pub short : Typable keys s.text s.answers

-- where a step leads, by a relation of states with views
abbrev pub Leads : Setup → (SlotState → View → Type 0) → Step SlotState → View → Type 0
Leads f related (Goes c t) w = related c w
Leads f related (Stops Ended t) w = IsHome f w
Leads f related (Stops Faulted t) w = IsHome f w
Leads f related (Stops Waits t) w = Waiting w
