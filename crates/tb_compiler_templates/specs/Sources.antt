-- Where the operands of a group come from, and where its result goes.
use Rattle.std.specs.Prelude.{ℕ, ◌+◌, ◌/◌, ◌%◌, ◌<◌}
use Rattle.tb_opcodes.specs.declared.Mnemonic.{Mnemonic}
use Rattle.tb_asm.specs.Layout.{Entry}
use Rattle.tb_words.specs.Words.{word}
use Rattle.tb_compiler_selection.specs.Groups.{Operand, Constant, Variable, InSlot, Home, IntoVariable, IntoHeld, Destination, IntoSlot, IntoHome, Tested, HeldBefore, HeldNow}
use Rattle.tb_compiled_kept.specs.Addresses.{HELD, var_at}
use Rattle.tb_compiler_templates.specs.Templates.{at, const, slot_at}
pub use Rattle.tb_compiler_templates.specs.declared.sources.Source.{Source}
pub use Rattle.tb_compiler_templates.specs.declared.sources.Words.{Words}
pub use Rattle.tb_compiler_templates.specs.declared.sources.Source.TheVariants.{FixedWord, AtAddress}

-- where the operand for slot k comes from
abbrev pub source_of : ℕ → Operand → Source
source_of k (Constant w) = FixedWord (word w)
source_of k (Variable x) = AtAddress (var_at x)
source_of k InSlot = AtAddress (slot_at k)

-- where the left word of a test comes from
abbrev pub tested_source : Tested → Source
tested_source HeldBefore = AtAddress HELD
tested_source (HeldNow a) = source_of 0 a

-- where slot 0 goes
abbrev pub home_at : Home → ℕ
home_at (IntoVariable x) = var_at x
home_at IntoHeld = HELD

-- where a result goes
abbrev pub destination_at : Destination → ℕ
destination_at (IntoSlot k) = slot_at k
destination_at (IntoHome home) = home_at home

-- the word's high byte is at an address too
abbrev pub IsWhole : Source → Type 0
IsWhole (FixedWord w) = Unit {0}
IsWhole (AtAddress p) = p + 1 < 65536

-- each of two words is a constant, or its high byte is at an address too
abbrev pub AreWhole : Words → Type 0
AreWhole words = IsWhole words.left × IsWhole words.right

-- an instruction on the low byte of a word
abbrev pub low_of : Mnemonic → Source → Entry
low_of mnemonic (FixedWord w) = const mnemonic (w % 256)
low_of mnemonic (AtAddress p) = at mnemonic p

-- an instruction on the high byte of a word
abbrev pub high_of : Mnemonic → Source → Entry
high_of mnemonic (FixedWord w) = const mnemonic (w / 256)
high_of mnemonic (AtAddress p) = at mnemonic (p + 1)
