-- Instructions at addresses that are not known as numbers: the operand is given, not read.
use Rattle.std.specs.Prelude.{◌≡◌, ℕ, ◌+◌, ◌/◌, ◌%◌, true, ◌==◌, leb, List, [], ◌∷◌, ◌++◌, length, Option, Some, None, Result, Ok, if◌then◌else◌}
use Rattle.tb_opcodes.specs.Opcodes.{find_row, rows}
use Rattle.tb_opcodes.specs.declared.Mnemonic.{Mnemonic}
use Rattle.tb_opcodes.specs.declared.Mode.{Mode}
use Rattle.tb_opcodes.specs.declared.Mode.TheVariants.{Implied, Accumulator, Immediate, ZeroPage, ZeroPageX, ZeroPageY, IndirectX, IndirectY, Relative, Absolute, AbsoluteX, AbsoluteY, Indirect}
use Rattle.tb_cpu.specs.declared.registers.Regs.{Regs}
use Rattle.tb_cpu.specs.declared.wrong.Wrong.{Wrong}
use Rattle.tb_cpu.specs.Operands.{Reader, and_then, zero_page_pointer, indirect_address, is_accumulator}
use Rattle.tb_cpu.specs.Instructions.{advanced, executed_on_a}
use Rattle.tb_machine_reaching.specs.View.{View, Part, Bytes}
use Rattle.tb_machine_reaching.proofs.Acting.{read_view, finish_view, act_operand}

-- ---- code

-- an opcode, and the byte or word after it, 0 if there is none
pub record Instr : Type 0 where
  pub opcode : ℕ
  pub operand : ℕ

abbrev pub ins : ℕ → ℕ → Instr
ins b o = record { opcode = b; operand = o }

abbrev pub operand_bytes : Mode → ℕ → List ℕ
operand_bytes Implied o = []
operand_bytes Accumulator o = []
operand_bytes Absolute o = o % 256 ∷ o / 256 ∷ []
operand_bytes AbsoluteX o = o % 256 ∷ o / 256 ∷ []
operand_bytes AbsoluteY o = o % 256 ∷ o / 256 ∷ []
operand_bytes Indirect o = o % 256 ∷ o / 256 ∷ []
operand_bytes _ o = o ∷ []

abbrev pub bytes_by : Option (Mnemonic × Mode) → Instr → List ℕ
bytes_by None i = i.opcode ∷ []
bytes_by (Some (m, mode)) i = i.opcode ∷ operand_bytes mode i.operand

abbrev pub instr_bytes : Instr → List ℕ
instr_bytes i = bytes_by (find_row rows i.opcode) i

abbrev pub flat : List Instr → List ℕ
flat [] = []
flat (i ∷ is) = instr_bytes i ++ flat is

-- these instructions follow one another from an address on
abbrev pub Stands : Part → ℕ → List Instr → Type 0
Stands code at [] = Unit {0}
Stands code at (i ∷ is) = Bytes code at (instr_bytes i) × Stands code ((at + length (instr_bytes i)) % 65536) is

-- ---- what they do

-- the operand's address, by the byte or word after the opcode
abbrev pub operand_by : Mode → ℕ → Regs → Reader → Result ℕ Wrong
operand_by Implied o r read = Ok 0
operand_by Accumulator o r read = Ok 0
operand_by Immediate o r read = Ok ((r.pc + 1) % 65536)
operand_by Relative o r read = Ok ((r.pc + 1) % 65536)
operand_by ZeroPage o r read = Ok o
operand_by ZeroPageX o r read = Ok ((o + r.x) % 256)
operand_by ZeroPageY o r read = Ok ((o + r.y) % 256)
operand_by IndirectX o r read = zero_page_pointer read ((o + r.x) % 256)
operand_by IndirectY o r read = and_then (zero_page_pointer read o) (λ p. Ok ((p + r.y) % 65536))
operand_by Absolute o r read = Ok o
operand_by AbsoluteX o r read = Ok ((o + r.x) % 65536)
operand_by AbsoluteY o r read = Ok ((o + r.y) % 65536)
operand_by Indirect o r read = indirect_address read o

-- what reads there: a byte after the opcode is the given one
abbrev pub reader_by : Mode → ℕ → Reader → Reader
reader_by Immediate o read = λ a. Ok o
reader_by Relative o read = λ a. Ok o
reader_by _ o read = read

abbrev pub act_instr_row : Part → ℕ → Option (Mnemonic × Mode) → ℕ → View → Option View
act_instr_row part room None o v = None
act_instr_row part room (Some (m, mode)) o v =
    if is_accumulator mode then finish_view v (executed_on_a m (advanced v.regs mode))
    else act_operand room m v (advanced v.regs mode) (reader_by mode o (read_view part v.mem)) (operand_by mode o v.regs (read_view part v.mem))

-- one instruction by its opcode and operand
abbrev pub act_instr : Part → ℕ → Instr → View → Option View
act_instr part room i v = if i.opcode == 0 then None else act_instr_row part room (find_row rows i.opcode) i.operand v

-- straight on from an address
abbrev pub run_along : Part → ℕ → List Instr → View → Option View
run_along part room [] v = Some v
run_along part room (i ∷ is) v = elim (act_instr part room i v) [ None ↦ None | Some w ↦ run_along part room is w ]

-- each instruction is at PC, with room on the stack
abbrev pub Follows : Part → ℕ → List Instr → ℕ → Option View → Type 0
Follows part room [] at o = Unit {0}
Follows part room (i ∷ is) at None = ⊥
Follows part room (i ∷ is) at (Some v) = (at ≡ v.regs.pc) × (leb (length v.stack) room ≡ true) × Follows part room is ((at + length (instr_bytes i)) % 65536) (act_instr part room i v)
