-- Steps of one or more slot instructions: of each one alone, or of some together.
use Rattle.std.proofs.Common.{◌≡◌, ℕ, zero, suc, ◌+◌, ◌≤◌, List, Option, Some, None}
use Rattle.tb_basic_meaning.specs.Steps.{Step, Goes, Run, GoesOn, Over, advance, advance_by}
use Rattle.tb_basic_meaning.specs.Control.{Place, At, Past, content_at}
use Rattle.tb_lower.specs.Slots.{Instr, SlotCode, Rest, Whole, Left, SlotState, slot_step, begins, begins_in, beginnings}

-- how many lines a state of the slot code is at the beginning of
abbrev pub found_line : Option (List Instr) → ℕ
found_line None = 0
found_line (Some is) = 1

abbrev pub lines_at : SlotCode → Rest → Place → ℕ
lines_at code (Left n is) place = 0
lines_at code Whole (At n) = found_line (content_at code n)
lines_at code Whole Past = 0

-- how many beginnings of lists the next k steps of a run pass
abbrev pub passed : (SlotState → Step SlotState) → ℕ → Run SlotState → ℕ
passed step zero r = 0
passed step (suc k) r = begins_in r + passed step k (advance step r)

-- a run is over, or is between lists
abbrev pub IsOutside : Run SlotState → Type 0
IsOutside (GoesOn c out) = c.rest ≡ Whole
IsOutside (Over why out) = Unit {0}

-- after j steps a run is where it is after some number of slot instructions, having passed as many beginnings of lists
pub record AsInstrs (code : SlotCode) (step : SlotState → Step SlotState) (j : ℕ) (r : Run SlotState) : Type 0 where
  pub count : ℕ
  pub same : advance_by step j r ≡ advance_by (slot_step code) count r
  pub begun : passed step j r ≡ beginnings code count r

-- where a run is after k slot instructions, it is after k steps or fewer, having passed as many beginnings of lists
pub record OfInstrs (code : SlotCode) (step : SlotState → Step SlotState) (k : ℕ) (r : Run SlotState) : Type 0 where
  pub count : ℕ
  pub few : count ≤ k
  pub same : advance_by step count r ≡ advance_by (slot_step code) k r
  pub begun : passed step count r ≡ beginnings code k r

-- a step of slot instructions: a state that goes on is at the beginning of a line when it is at that of a list, each run
-- by steps is a run by instructions, and comes wherever that run is outside a list
pub record IsStride (code : SlotCode) (step : SlotState → Step SlotState) : Type 0 where
  pub begins_line : (c d : SlotState) (t : List ℕ) → step c ≡ Goes d t → begins c.rest c.state.place ≡ lines_at code c.rest c.state.place
  pub reached : (j : ℕ) (r : Run SlotState) → AsInstrs code step j r
  pub found : (k : ℕ) (r : Run SlotState) → IsOutside (advance_by (slot_step code) k r) → OfInstrs code step k r
