-- In which line a machine is.
use Rattle.std.specs.Prelude.{ℕ, ◌+◌, ◌-◌, nat_lt, ◌||◌, List, Option, Some, None, if◌then◌else◌}
use Rattle.tb_cpu.specs.Operands.{word_from}
use Rattle.tb_kernal.specs.Machine.{State}
use Rattle.tb_compiled.specs.Compiled.{line_in}
use Rattle.tb_compiled_kept.specs.Addresses.{HOME_S}

-- the line whose code called a routine, with the stack pointer at s: at the start's stack pointer lies its return address
abbrev pub called_from : List (ℕ × ℕ) → ℕ → (ℕ → ℕ) → ℕ → Option ℕ
called_from starts table m s =
    if nat_lt (m HOME_S) 2 || nat_lt (m HOME_S - 2) s then None
    else line_in starts table (word_from (m (0x0100 + m HOME_S - 1)) (m (0x0100 + m HOME_S)))

-- a line, or else another one
abbrev pub or_else : Option ℕ → Option ℕ → Option ℕ
or_else (Some line) other = Some line
or_else None other = other

-- the line that a machine does: that in whose code it is, or that which called the routine in which it is
abbrev pub line_of : List (ℕ × ℕ) → ℕ → State → Option ℕ
line_of starts table s = or_else (line_in starts table s.regs.pc) (called_from starts table s.mem s.regs.s)
