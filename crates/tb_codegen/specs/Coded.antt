-- A program's slot code, and when its code and line table are too long.
use Rattle.std.specs.Prelude.{◌≡◌, ℕ, ◌+◌, ◌≤◌, ◌<◌, List, length, map, None}
use Rattle.tb_basic_syntax.specs.Source.{Program, numbers, Rises}
use Rattle.tb_asm.specs.Layout.{size}
use Rattle.tb_asm.specs.Settle.{Form, kept, items_from, Settles}
use Rattle.tb_lower.specs.Follows.{Follows}
use Rattle.tb_lower.specs.Lowered.{program_code as slots_of}
use Rattle.tb_basic_meaning.specs.Need.{too_deep}
use Rattle.tb_lower.specs.Slots.{SlotCode}
use Rattle.tb_compiled_errors.specs.declared.refusals.CompileError.{CompileError}
use Rattle.tb_compiled_errors.specs.declared.refusals.CompileError.TheVariants.{Source, Lower, TooLarge, NoMemory}
use Rattle.tb_runtime16.specs.Addresses.{PROLOGUE_AT}
use Rattle.tb_compiled_kept.specs.Addresses.{LINES_AT}
use Rattle.tb_compiler_program.specs.Program.{AreCodable, program_code}
use Rattle.tb_compiled.specs.Refusals.{told_of}

-- slot code that can be laid out: its lists and lines can be counted, and its numbers rise
pub record IsListed (code : SlotCode) : Type 0 where
  pub lists : AreCodable code
  pub lines : length code < 65536
  pub rising : Rises 0 65536 (numbers code)

-- a program's slot code does what the program does, and can be laid out
pub record IsSlotCode (program : Program) (code : SlotCode) : Type 0 where
  pub lowered : code ≡ slots_of program
  pub follows : Follows program code
  pub shallow : too_deep program ≡ None
  pub listed : IsListed code

-- once it is settled, code with its line table ends past $9FFF, and n is what is told of the bytes that it takes
pub record SettlesTooLong (n seed : ℕ) (code : SlotCode) : Type 0 where
  pub forms : List Form
  pub rounds : Settles PROLOGUE_AT (map kept (program_code seed code)) forms
  pub bytes : ℕ
  pub takes : LINES_AT + bytes ≡ PROLOGUE_AT + size (items_from PROLOGUE_AT forms)
  pub past : 0xA000 < LINES_AT + bytes
  pub told : n ≡ told_of bytes

-- once it is settled, a program's code with its line table ends by $9FFF
pub record SettlesToFit (seed : ℕ) (code : SlotCode) : Type 0 where
  pub forms : List Form
  pub rounds : Settles PROLOGUE_AT (map kept (program_code seed code)) forms
  pub ends : PROLOGUE_AT + size (items_from PROLOGUE_AT forms) ≤ 0xA000

-- why slot code has no PRG file
abbrev pub IsTooLong : ℕ → SlotCode → CompileError → Type 0
IsTooLong seed code (TooLarge n) = SettlesTooLong n seed code
IsTooLong seed code NoMemory = Unit {0}
IsTooLong seed code (Source e) = ⊥
IsTooLong seed code (Lower e) = ⊥
