-- Addressing modes.
use Rattle.std.specs.Prelude.{ℕ, ℤ, pos, negsuc, Bool, false, ◌&&◌, Option, Some, None, Result, Ok, Err, nat_lt, is_some, if◌then◌else◌}
use Rattle.tb_opcodes.specs.Opcodes.{encoded, length_of}
use Rattle.tb_opcodes.specs.declared.Mnemonic.{Mnemonic}
use Rattle.tb_opcodes.specs.declared.Mode.{Mode}
use Rattle.tb_opcodes.specs.declared.Mode.TheVariants.{Implied, Accumulator as AccumulatorMode, Immediate as ImmediateMode, ZeroPage as ZeroPageMode, ZeroPageX, ZeroPageY, IndirectX, IndirectY, Relative, Absolute as AbsoluteMode, AbsoluteX, AbsoluteY, Indirect as IndirectMode}
use Rattle.tb_assembly_text.specs.declared.operands.Width.{Width}
use Rattle.tb_assembly_text.specs.declared.operands.Width.TheVariants.{Free, ZeroPage, Absolute, Long}
use Rattle.tb_assembly_text.specs.declared.operands.Index.{Index}
use Rattle.tb_assembly_text.specs.declared.operands.Index.TheVariants.{Without, X, Y}
use Rattle.tb_assembly_text.specs.Expressions.{Sum}
use Rattle.tb_assembly_text.specs.Operands.{Form, nothing, accumulator, immediate, direct_by, indirect, by_x, by_y}
use Rattle.tb_assembly_meaning.specs.declared.faults.MeaningFault.{MeaningFault}
use Rattle.tb_assembly_meaning.specs.Names.{Env}
use Rattle.tb_assembly_meaning.specs.Values.{value}

-- whether there is an instruction with a mode
abbrev pub has : Mnemonic → Mode → Bool
has m mode = is_some (encoded m mode)

-- the mode without an operand: that of the accumulator if there is no other
abbrev pub without_operand : Mnemonic → Mode
without_operand m = if has m Implied then Implied else AccumulatorMode

-- whether a number is from 0 to 255
abbrev pub is_low : ℤ → Bool
is_low (pos n) = nat_lt n 256
is_low (negsuc n) = false

-- whether a value is known and from 0 to 255
abbrev pub is_known_low : Result ℤ MeaningFault → Bool
is_known_low (Ok z) = is_low z
is_known_low (Err f) = false

-- whether the value of an address is known where it is read, and less than 256
abbrev pub is_short : Env → ℤ → Sum → Bool
is_short env at e = is_known_low (value env at e)

-- the mode of one byte or that of two: as it is forced, else one byte if the address is short and there is such an instruction
abbrev pub pick : Mnemonic → Width → Bool → Mode → Mode → Mode
pick m ZeroPage short one two = one
pick m Absolute short one two = two
pick m Long short one two = two
pick m Free short one two = if short && has m one then one else two

-- the mode of an address with a register
abbrev pub direct_mode : Mnemonic → Width → Bool → Index → Mode
direct_mode m w short X = pick m w short ZeroPageX AbsoluteX
direct_mode m w short Y = pick m w short ZeroPageY AbsoluteY
direct_mode m w short Without = if has m Relative then Relative else pick m w short ZeroPageMode AbsoluteMode

-- the target of a long branch, if an instruction in a mode is one
abbrev pub long_target : Form → Mode → Option Sum
long_target (direct_by Long e Without) Relative = Some e
long_target form mode = None

-- how many bytes an instruction in a mode takes: a long branch is the inverse branch with its 2 and a jump with its 3
abbrev pub size_in : Form → Mode → ℕ
size_in form mode = if is_some (long_target form mode) then 5 else length_of mode

-- the mode of an instruction at an address by its operand, with what names stand for where it is read
abbrev pub mode_of : Env → ℤ → Mnemonic → Form → Mode
mode_of env at m nothing = without_operand m
mode_of env at m accumulator = AccumulatorMode
mode_of env at m (immediate e) = ImmediateMode
mode_of env at m (direct_by w e i) = direct_mode m w (is_short env at e) i
mode_of env at m (indirect e) = IndirectMode
mode_of env at m (by_x e) = IndirectX
mode_of env at m (by_y e) = IndirectY
