-- The cycles of an instruction (MCS6500 Programming Manual, appendix B): a base by kind and mode, and what crossed pages
-- and taken branches add.
use Rattle.std.specs.Prelude.{ℕ, ◌+◌, ◌/◌, ◌%◌, Bool, true, false, not, ◌&&◌, ◌==◌, Option, Some, None, Result, Ok, Err, if◌then◌else◌}
use Rattle.tb_opcodes.specs.Opcodes.{decoded}
use Rattle.tb_opcodes.specs.declared.Mnemonic.{Mnemonic}
use Rattle.tb_opcodes.specs.declared.Mode.{Mode}
use Rattle.tb_opcodes.specs.declared.Mnemonic.TheVariants.{Adc, And, Asl, Bcc, Bcs, Beq, Bit, Bmi, Bne, Bpl, Brk, Bvc, Bvs, Cmp, Cpx, Cpy, Dec, Eor, Inc, Jmp}
use Rattle.tb_opcodes.specs.declared.Mnemonic.TheVariants.{Jsr, Lda, Ldx, Ldy, Lsr, Ora, Pha, Php, Pla, Plp, Rol, Ror, Rti, Rts, Sbc, Sta, Stx, Sty}
use Rattle.tb_opcodes.specs.declared.Mode.TheVariants.{Accumulator, Immediate, ZeroPage, ZeroPageX, ZeroPageY, IndirectX, IndirectY, Relative, Absolute, AbsoluteX, AbsoluteY, Indirect}
use Rattle.tb_cpu.specs.declared.registers.Regs.{Regs}
use Rattle.tb_cpu.specs.declared.registers.Flags.{Flags}
use Rattle.tb_cpu.specs.declared.wrong.Wrong.{Wrong}
use Rattle.tb_cpu.specs.Operands.{Reader}
use Rattle.tb_cpu.specs.Instructions.{advanced, branch_target, operand_address}

-- ---- the base: no page crossed, no branch taken

-- an instruction that reads its operand; 0 for a mode that no such instruction has
abbrev pub reading_base : Mode → ℕ
reading_base Immediate = 2
reading_base ZeroPage = 3
reading_base ZeroPageX = 4
reading_base ZeroPageY = 4
reading_base Absolute = 4
reading_base AbsoluteX = 4
reading_base AbsoluteY = 4
reading_base IndirectX = 6
reading_base IndirectY = 5
reading_base _ = 0

-- an instruction that stores a register
abbrev pub storing_base : Mode → ℕ
storing_base ZeroPage = 3
storing_base ZeroPageX = 4
storing_base ZeroPageY = 4
storing_base Absolute = 4
storing_base AbsoluteX = 5
storing_base AbsoluteY = 5
storing_base IndirectX = 6
storing_base IndirectY = 6
storing_base _ = 0

-- an instruction that changes a byte in place, or A
abbrev pub changing_base : Mode → ℕ
changing_base Accumulator = 2
changing_base ZeroPage = 5
changing_base ZeroPageX = 6
changing_base Absolute = 6
changing_base AbsoluteX = 7
changing_base _ = 0

-- JMP
abbrev pub jump_base : Mode → ℕ
jump_base Absolute = 3
jump_base Indirect = 5
jump_base _ = 0

-- the base of a mnemonic in a mode
abbrev pub base_of : Mnemonic → Mode → ℕ
base_of Adc mode = reading_base mode
base_of And mode = reading_base mode
base_of Bit mode = reading_base mode
base_of Cmp mode = reading_base mode
base_of Cpx mode = reading_base mode
base_of Cpy mode = reading_base mode
base_of Eor mode = reading_base mode
base_of Lda mode = reading_base mode
base_of Ldx mode = reading_base mode
base_of Ldy mode = reading_base mode
base_of Ora mode = reading_base mode
base_of Sbc mode = reading_base mode
base_of Sta mode = storing_base mode
base_of Stx mode = storing_base mode
base_of Sty mode = storing_base mode
base_of Asl mode = changing_base mode
base_of Dec mode = changing_base mode
base_of Inc mode = changing_base mode
base_of Lsr mode = changing_base mode
base_of Rol mode = changing_base mode
base_of Ror mode = changing_base mode
base_of Jmp mode = jump_base mode
base_of Jsr mode = 6
base_of Rts mode = 6
base_of Rti mode = 6
base_of Brk mode = 7
base_of Pha mode = 3
base_of Php mode = 3
base_of Pla mode = 4
base_of Plp mode = 4
base_of _ mode = 2

-- the base of a byte's instruction, 0 if the byte is no opcode
abbrev pub base_by : Option (Mnemonic × Mode) → ℕ
base_by None = 0
base_by (Some (mnemonic, mode)) = base_of mnemonic mode

-- ---- what comes on top

-- the instructions that read their operand and have an indexed mode; those that write it always take the longer time
abbrev pub reads_indexed : Mnemonic → Bool
reads_indexed Adc = true
reads_indexed And = true
reads_indexed Cmp = true
reads_indexed Eor = true
reads_indexed Lda = true
reads_indexed Ldx = true
reads_indexed Ldy = true
reads_indexed Ora = true
reads_indexed Sbc = true
reads_indexed _ = false

-- whether two addresses are in one page of 256 bytes
abbrev pub same_page : ℕ → ℕ → Bool
same_page a b = a / 256 == b / 256

-- the registers with 0 in X and Y
abbrev pub unindexed : Regs → Regs
unindexed r = record r { x = 0; y = 0 }

-- whether the index leads out of the page: the operand of the instruction at PC is in another page than without index
abbrev pub crosses_page : Regs → Reader → Bool
crosses_page r read = not (same_page (operand_address r read) (operand_address (unindexed r) read))

-- 1 for a page that a reading instruction's index crosses
abbrev pub index_extra : Mnemonic → Regs → Reader → ℕ
index_extra mnemonic r read = if reads_indexed mnemonic && crosses_page r read then 1 else 0

-- whether a branch is taken
abbrev pub is_taken : Mnemonic → Flags → Bool
is_taken Bpl f = not f.n
is_taken Bmi f = f.n
is_taken Bvc f = not f.v
is_taken Bvs f = f.v
is_taken Bcc f = not f.c
is_taken Bcs f = f.c
is_taken Bne f = not f.z
is_taken Beq f = f.z
is_taken _ f = false

-- a taken branch from the next instruction to a target: 1, or 2 if the target is in another page
abbrev pub taken_extra : ℕ → ℕ → ℕ
taken_extra next target = if same_page next target then 1 else 2

-- the extra of a branch by its distance; PC is already at the next instruction
abbrev pub distance_extra : Regs → Result ℕ Wrong → ℕ
distance_extra r (Ok distance) = taken_extra r.pc (branch_target r distance)
distance_extra r (Err w) = 0

-- a branch at PC, by whether it is taken
abbrev pub branch_by : Bool → Regs → Reader → ℕ
branch_by taken r read = if taken then distance_extra (advanced r Relative) (read ((r.pc + 1) % 65536)) else 0

-- a branch: 0 if it is not taken
abbrev pub branch_extra : Mnemonic → Regs → Reader → ℕ
branch_extra mnemonic r read = branch_by (is_taken mnemonic r.flags) r read

-- what comes on top for a mnemonic in a mode
abbrev pub extra_of : Mnemonic → Mode → Regs → Reader → ℕ
extra_of mnemonic AbsoluteX r read = index_extra mnemonic r read
extra_of mnemonic AbsoluteY r read = index_extra mnemonic r read
extra_of mnemonic IndirectY r read = index_extra mnemonic r read
extra_of mnemonic Relative r read = branch_extra mnemonic r read
extra_of mnemonic _ r read = 0

-- what comes on top for a byte's instruction, 0 if the byte is no opcode
abbrev pub extra_by : Option (Mnemonic × Mode) → Regs → Reader → ℕ
extra_by None r read = 0
extra_by (Some (mnemonic, mode)) r read = extra_of mnemonic mode r read

-- ---- the whole

-- an opcode's base, and what comes on top
abbrev pub cycles_of : Option (Mnemonic × Mode) → Regs → Reader → ℕ
cycles_of byte r read = base_by byte + extra_by byte r read

-- an opcode's base, and what comes on top; 0 if the opcode cannot be read
abbrev pub cycles_by : Result ℕ Wrong → Regs → Reader → ℕ
cycles_by (Ok opcode) r read = cycles_of (decoded opcode) r read
cycles_by (Err w) r read = 0

-- the cycles of the instruction at PC; 0 if there is none
abbrev pub cycles_at : Regs → Reader → ℕ
cycles_at r read = cycles_by (read r.pc) r read
