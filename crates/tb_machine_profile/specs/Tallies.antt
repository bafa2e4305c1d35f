-- Tallies: what was counted, by address.
use Rattle.std.specs.Prelude.{ℕ, ◌≡◌, ◌<◌, ◌≤◌, ◌+◌, Bool, false, List, [], ◌∷◌, length, slice_index, slice_index_or, slice_set, sum_by}
use Rattle.tb_cpu.specs.Operands.{reading}
use Rattle.tb_kernal.specs.declared.events.Event.{Event}
use Rattle.tb_kernal.specs.declared.events.Event.TheVariants.{Go, Interrupt}
use Rattle.tb_kernal.specs.Machine.{State, Content, state_of, status, happens}
use Rattle.tb_kernal.specs.declared.status.Status.TheVariants.{Running}
use Rattle.tb_machine_profile.specs.Steps.{Step, begins_line, line_by, cycles_of_go, times_of, instructions_of, cycles_of}

-- what a tally holds: three lists of 65,536 counts, the line begun last, and the number of all steps and of their cycles
pub record Counted : Type 0 where
  pub begins : List Bool
  pub times : List ℕ
  pub instructions : List ℕ
  pub cycles : List ℕ
  pub line : ℕ
  pub taken : ℕ
  pub spent : ℕ

-- the address of the line begun last, after some steps
abbrev pub last_line : ℕ → List Step → ℕ
last_line line [] = line
last_line line (t ∷ ts) = last_line t.line ts

-- a tally has counted these steps of a program whose lines begin at these addresses
pub record IsTally (starts : List ℕ) (ts : List Step) (t : Counted) : Type 0 where
  pub whole : (length t.begins ≡ 65536) × (length t.times ≡ 65536) × (length t.instructions ≡ 65536) × (length t.cycles ≡ 65536)
  pub begins : (a : ℕ) → a < 65536 → slice_index_or t.begins a false ≡ begins_line starts a
  pub times : (a : ℕ) → a < 65536 → slice_index t.times a ≡ times_of ts a
  pub instructions : (a : ℕ) → a < 65536 → slice_index t.instructions a ≡ instructions_of ts a
  pub cycles : (a : ℕ) → a < 65536 → slice_index t.cycles a ≡ cycles_of ts a
  pub line : t.line ≡ last_line 0 ts
  pub taken : t.taken ≡ length ts
  pub spent : t.spent ≡ sum_by (λ x. x.cycles) ts

-- each number of a list is at most the given one
abbrev pub AreAtMost : ℕ → List ℕ → Type 0
AreAtMost most xs = (k : ℕ) → slice_index xs k ≤ most

-- the most cycles of a step
abbrev pub most_cycles : ℕ
most_cycles = 9

-- the given amount more at an address
abbrev pub with_more : List ℕ → ℕ → ℕ → List ℕ
with_more xs a more = slice_set xs a (slice_index xs a + more)

-- one more step, of the line that begins at an address
abbrev pub with_step : Counted → ℕ → ℕ → ℕ → Counted
with_step t pc line cycles =
    record {
      begins = t.begins;
      times = with_more t.times pc 1;
      instructions = with_more t.instructions line 1;
      cycles = with_more t.cycles line cycles;
      line = line;
      taken = t.taken + 1;
      spent = t.spent + cycles;
    }

-- one more step, by its PC and its cycles
abbrev pub after_step : Counted → ℕ → ℕ → Counted
after_step t pc cycles = with_step t pc (line_by (slice_index_or t.begins pc false) t.line pc) cycles

-- a tally before and after an event of a running machine
abbrev pub CountsEvent : Event → State → Counted → Counted → Type 0
CountsEvent (Go k) s t u = (s.regs.pc < 65536) × (u ≡ after_step t s.regs.pc (cycles_of_go s.regs (reading s.mem)))
CountsEvent (Interrupt ws) s t u = u ≡ t

-- an event that an outside gave a machine, with the outside, the machine and the tally after it; room may be made before it
pub record Took {O : Type 0} (gives : O → Content → Event → O → Type 0) (o : O) (m : Content) (t : Counted) (p : O) (n : Content) (u : Counted) : Type 0 where
  pub event : Event
  pub ready : Content
  pub same : state_of ready ≡ state_of m
  pub given : gives o ready event p
  pub happened : state_of n ≡ happens (state_of ready) event
  pub counted : CountsEvent event (state_of ready) t u

-- events that an outside, which stays as it is, gave a running machine in turn, each of which was counted
abbrev pub TookAll : {O : Type 0} → (O → Content → Event → O → Type 0) → O → Content → Counted → List Event → Content → Counted → Type 0
TookAll gives o m t [] n u = (state_of n ≡ state_of m) × (u ≡ t)
TookAll gives o m t (e ∷ es) n u =
    (status (state_of m) ≡ Running)
    × ((after : Content) × (v : Counted) × gives o m e o × (state_of after ≡ happens (state_of m) e)
    × CountsEvent e (state_of m) t v × TookAll gives o after v es n u)
