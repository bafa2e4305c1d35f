-- The rows of lines, by what a tally has counted at the addresses where they begin.
use Rattle.std.specs.Prelude.{ℕ, ◌≡◌, ◌+◌, ◌<◌, false, List, [], ◌∷◌, map, length, slice_index, sum_by, Result, Ok, Err}
use Rattle.std.specs.declared.alloc.AllocError.{AllocError}
use Rattle.tb_kernal.specs.declared.events.Event.{Event}
use Rattle.tb_kernal.specs.declared.status.Status.{Status}
use Rattle.tb_kernal.specs.Machine.{Content, state_of}
use Rattle.tb_kernal.specs.Runs.{RanOver}
use Rattle.tb_machine_profile.specs.Steps.{Step, steps, begins_line, times_of, instructions_of, cycles_of}
use Rattle.tb_machine_profile.specs.Tallies.{Counted}
use Rattle.tb_engine_profile_table.specs.declared.rows.Start.{Start}
use Rattle.tb_engine_profile_table.specs.declared.rows.Row.{Row}
use Rattle.tb_engine_profile_table.specs.declared.rows.Whole.{Whole}
use Rattle.tb_engine_profile_table.specs.declared.rows.Table.{Table}

-- a line with the address where it begins
abbrev pub start_pair : Start → ℕ × ℕ
start_pair s = (s.line, s.address)

-- ---- by a tally

-- the row of a line that begins at an address
abbrev pub row_in : Counted → ℕ → ℕ → Row
row_in t line address =
    record {
      line = line;
      times = slice_index t.times address;
      instructions = slice_index t.instructions address;
      cycles = slice_index t.cycles address;
    }

-- what the whole run took
abbrev pub whole_in : Counted → Whole
whole_in t = record { start = record (row_in t 0 0) { times = 1 }; instructions = t.taken; cycles = t.spent }

-- a table of the lines with these starts
pub record IsTableOf (t : Counted) (starts : List Start) (status : Status) (table : Table) : Type 0 where
  pub whole : table.whole ≡ whole_in t
  pub rows : table.rows.items ≡ map (λ s. row_in t s.line s.address) starts
  pub ends : table.status ≡ status

-- ---- by the steps of a run

-- the row of a line that begins at an address: how often it was begun, its steps, and their cycles
abbrev pub row_of : List Step → ℕ → ℕ → Row
row_of ts line address =
    record { line = line; times = times_of ts address; instructions = instructions_of ts address; cycles = cycles_of ts address }

-- a table of lines and their addresses: the row of each, what came before the first (with times 1), all steps, and all
-- cycles
pub record IsTable (ts : List Step) (starts : List (ℕ × ℕ)) (table : Table) : Type 0 where
  pub rows : table.rows.items ≡ map (λ s. row_of ts s.0 s.1) starts
  pub before : table.whole.start ≡ record (row_of ts 0 0) { times = 1 }
  pub instructions : table.whole.instructions ≡ length ts
  pub cycles : table.whole.cycles ≡ sum_by (λ t. t.cycles) ts

-- no address is 0, and none occurs twice
abbrev pub AreApart : List ℕ → Type 0
AreApart [] = Unit {0}
AreApart (p ∷ addresses) = (0 < p) × (begins_line addresses p ≡ false) × AreApart addresses

-- the rows and what came before them are the whole: nothing is counted twice, and nothing is left out
pub record AddsUp (table : Table) : Type 0 where
  pub instructions : table.whole.start.instructions + sum_by (λ r. r.instructions) table.rows.items ≡ table.whole.instructions
  pub cycles : table.whole.start.cycles + sum_by (λ r. r.cycles) table.rows.items ≡ table.whole.cycles

-- a run of at most `limit` events that an outside gave, and its table; it adds up if no two lines begin at one address
pub record Tabled {O : Type 0} (gives : O → Content → Event → O → Type 0) (o : O) (m : Content) (starts : List (ℕ × ℕ)) (limit : ℕ) (table : Table) (p : O) (n : Content) : Type 0 where
  pub status : Status
  pub ran : RanOver gives o m limit (Ok status) p n
  pub taken : List Step
  pub are_steps : taken ≡ steps (map (λ s. s.1) starts) 0 ran.events (state_of m)
  pub is : IsTable taken starts table
  pub ends : table.status ≡ status
  pub adds_up : AreApart (map (λ s. s.1) starts) → AddsUp table

-- a table, unless memory ran out
abbrev pub Profiles : {O : Type 0} → (O → Content → Event → O → Type 0) → O → Content → List (ℕ × ℕ) → ℕ → Result Table AllocError → O → Content → Type 0
Profiles gives o m starts limit (Ok table) p n = Tabled gives o m starts limit table p n
Profiles gives o m starts limit (Err e) p n = Unit {0}
