-- What an instruction does to a view: the processor's own definition, over the bytes that the program owns.
use Rattle.std.specs.Prelude.{ℕ, zero, suc, ◌+◌, ◌/◌, ◌%◌, Bool, true, false, ◌&&◌, ◌==◌, nat_le, leb, List, [], ◌∷◌, ◌++◌}
use Rattle.std.specs.Prelude.{length, Option, Some, None, Result, Ok, Err, if◌then◌else◌}
use Rattle.tb_memmap.specs.Bytes.{Writes, written}
use Rattle.tb_opcodes.specs.Opcodes.{find_row, rows}
use Rattle.tb_opcodes.specs.declared.Mnemonic.{Mnemonic}
use Rattle.tb_opcodes.specs.declared.Mnemonic.TheVariants.{Brk as BrkM, Jsr, Pha, Php, Pla, Plp, Rti, Rts, Tsx, Txs}
use Rattle.tb_opcodes.specs.declared.Mode.{Mode}
use Rattle.tb_cpu.specs.declared.registers.Regs.{Regs}
use Rattle.tb_cpu.specs.declared.wrong.Wrong.{Wrong}
use Rattle.tb_cpu.specs.declared.wrong.Wrong.TheVariants.{Closed}
use Rattle.tb_cpu.specs.Effects.{loaded_a, status_byte, status_flags}
use Rattle.tb_cpu.specs.Operands.{Reader, operand_of, is_accumulator, word_from}
use Rattle.tb_cpu.specs.Instructions.{Outcome, executed, executed_on_a, advanced}
use Rattle.tb_machine_reaching.specs.View.{View, Part, is_data}

-- ---- reading and writing

abbrev pub from_part : ℕ → Option ℕ → Result ℕ Wrong
from_part a None = Err (Closed a)
from_part a (Some b) = Ok b

-- data are read from memory, and the program's bytes are read from the program
abbrev pub read_view : Part → (ℕ → ℕ) → Reader
read_view part m a = if is_data a then Ok (m a) else from_part a (part a)

-- all writes go to data
abbrev pub all_data : Writes → Bool
all_data [] = true
all_data (w ∷ ws) = is_data w.0 && all_data ws

-- the view that an outcome leads to, if there is one
abbrev pub finish_view : View → Result Outcome Wrong → Option View
finish_view v (Ok e) = if all_data e.1 then Some (record v { regs = e.0; mem = written v.mem e.1 }) else None
finish_view v (Err w) = None

-- ---- the stack

-- bytes are pushed if there is room
abbrev pub push_view : ℕ → View → List ℕ → Regs → Option View
push_view room v bs r = if nat_le (length (bs ++ v.stack)) room then Some (record v { regs = r; stack = bs ++ v.stack }) else None

-- the byte that PHA and PHP push
abbrev pub pushed_byte : Mnemonic → Regs → ℕ
pushed_byte Php r = status_byte r.flags
pushed_byte _ r = r.a

-- the registers after PLA and PLP
abbrev pub with_pulled : Mnemonic → Regs → ℕ → Regs
with_pulled Plp r b = record r { flags = status_flags b }
with_pulled _ r b = loaded_a r b

abbrev pub pull_one : Mnemonic → View → Regs → List ℕ → Option View
pull_one m v r (b ∷ bs) = Some (record v { regs = with_pulled m r b; stack = bs })
pull_one m v r _ = None

-- RTS
abbrev pub pull_two : View → Regs → List ℕ → Option View
pull_two v r (lo ∷ hi ∷ bs) = Some (record v { regs = record r { pc = (word_from lo hi + 1) % 65536 }; stack = bs })
pull_two v r _ = None

-- RTI
abbrev pub pull_three : View → Regs → List ℕ → Option View
pull_three v r (p ∷ lo ∷ hi ∷ bs) = Some (record v { regs = record r { flags = status_flags p; pc = word_from lo hi }; stack = bs })
pull_three v r _ = None

-- the address that a call pushes
abbrev pub behind : Regs → ℕ
behind r = (r.pc + 65535) % 65536

-- ---- one instruction

-- how an instruction uses the stack; TSX and TXS need S, which a view hasn't, and BRK is refused
pub data Kind : Type 0 where
  Plain Calls Returns Resumes Pushes Pulls Refused : Kind

abbrev pub kind_of : Mnemonic → Kind
kind_of Jsr = Calls
kind_of Rts = Returns
kind_of Rti = Resumes
kind_of Pha = Pushes
kind_of Php = Pushes
kind_of Pla = Pulls
kind_of Plp = Pulls
kind_of Tsx = Refused
kind_of Txs = Refused
kind_of BrkM = Refused
kind_of _ = Plain

-- with PC at the next instruction in r
abbrev pub act_kind : Kind → ℕ → Mnemonic → View → Regs → Reader → ℕ → Option View
act_kind Plain room m v r read o = finish_view v (executed m r read o)
act_kind Calls room m v r read o = push_view room v (behind r % 256 ∷ behind r / 256 ∷ []) (record r { pc = o })
act_kind Returns room m v r read o = pull_two v r v.stack
act_kind Resumes room m v r read o = pull_three v r v.stack
act_kind Pushes room m v r read o = push_view room v (pushed_byte m r ∷ []) r
act_kind Pulls room m v r read o = pull_one m v r v.stack
act_kind Refused room m v r read o = None

abbrev pub act_operand : ℕ → Mnemonic → View → Regs → Reader → Result ℕ Wrong → Option View
act_operand room m v r read (Ok o) = act_kind (kind_of m) room m v r read o
act_operand room m v r read (Err w) = None

abbrev pub act_row : ℕ → View → Reader → Option (Mnemonic × Mode) → Option View
act_row room v read None = None
act_row room v read (Some (m, mode)) =
    if is_accumulator mode then finish_view v (executed_on_a m (advanced v.regs mode))
    else act_operand room m v (advanced v.regs mode) read (operand_of mode v.regs read)

abbrev pub act_opcode : ℕ → View → Reader → Option ℕ → Option View
act_opcode room v read None = None
act_opcode room v read (Some b) = if b == 0 then None else act_row room v read (find_row rows b)

-- one instruction of a part of the program, with room for this many bytes on the view's stack
abbrev pub act : Part → ℕ → View → Option View
act part room v = act_opcode room v (read_view part v.mem) (part v.regs.pc)

-- n instructions
abbrev pub run_view : Part → ℕ → ℕ → View → Option View
run_view part room zero v = Some v
run_view part room (suc n) v =
    elim (leb (length v.stack) room) [ false ↦ None | true ↦ elim (act part room v) [ None ↦ None | Some w ↦ run_view part room n w ] ]

-- the view, or another if there is none
abbrev pub the : View → Option View → View
the v None = v
the v (Some w) = w

abbrev pub is_there : Option View → Bool
is_there None = false
is_there (Some w) = true
