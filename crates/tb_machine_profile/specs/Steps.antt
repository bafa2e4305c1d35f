-- The program's own events of a run, each with the line that was begun last and its cycles.
use Rattle.std.specs.Prelude.{ℕ, Bool, false, ◌||◌, ◌==◌, List, [], ◌∷◌, if◌then◌else◌, count_by, sum_by}
use Rattle.tb_cpu.specs.declared.registers.Regs.{Regs}
use Rattle.tb_cpu.specs.Operands.{Reader, reading}
use Rattle.tb_kernal.specs.declared.events.Event.{Event}
use Rattle.tb_kernal.specs.declared.events.Event.TheVariants.{Go, Interrupt}
use Rattle.tb_kernal.specs.Machine.{State, happens, is_no_service}
use Rattle.tb_kernal.specs.Rom.{service_at}
use Rattle.tb_machine_cycles.specs.Cycles.{cycles_at}

-- an instruction or a service: its PC, the address of the line begun last, 0 if no line was begun, and the cycles
pub record Step : Type 0 where
  pub pc : ℕ
  pub line : ℕ
  pub cycles : ℕ

-- whether a line begins at an address
abbrev pub begins_line : List ℕ → ℕ → Bool
begins_line [] a = false
begins_line (p ∷ starts) a = (a == p) || begins_line starts a

-- the address of the line begun last: PC if a line begins there, else as before
abbrev pub line_by : Bool → ℕ → ℕ → ℕ
line_by begins line pc = if begins then pc else line

-- a service, whose time is not the program's, counts as its RTS
abbrev pub service_cycles : ℕ
service_cycles = 6

-- the cycles of an instruction, or of a service
abbrev pub cycles_of_go : Regs → Reader → ℕ
cycles_of_go r read = if is_no_service (service_at r.pc) then cycles_at r read else service_cycles

-- a Go of a running machine
abbrev pub step_of : List ℕ → ℕ → State → Step
step_of starts line s =
    record { pc = s.regs.pc; line = line_by (begins_line starts s.regs.pc) line s.regs.pc; cycles = cycles_of_go s.regs (reading s.mem) }

-- the steps of a run whose lines begin at these addresses; interrupts are the ROM's, and no steps
abbrev pub steps : List ℕ → ℕ → List Event → State → List Step
steps starts line [] s = []
steps starts line (Go k ∷ es) s = step_of starts line s ∷ steps starts (step_of starts line s).line es (happens s (Go k))
steps starts line (Interrupt ws ∷ es) s = steps starts line es (happens s (Interrupt ws))

-- ---- what is counted for an address

-- how often a step began there
abbrev pub times_of : List Step → ℕ → ℕ
times_of ts a = count_by (λ t. t.pc == a) ts

-- how many steps belong to the line that begins there
abbrev pub instructions_of : List Step → ℕ → ℕ
instructions_of ts a = count_by (λ t. t.line == a) ts

-- the cycles of these steps
abbrev pub cycles_of : List Step → ℕ → ℕ
cycles_of ts a = sum_by (λ t. if t.line == a then t.cycles else 0) ts
