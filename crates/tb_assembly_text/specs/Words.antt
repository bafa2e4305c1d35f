-- The words of instructions and directives.
use Rattle.std.specs.Prelude.{ℕ, Bool, ◌||◌, Option, Some, None, is_some, List, map, codes, if◌then◌else◌}
use Rattle.tb_opcodes.specs.declared.Mnemonic.{Mnemonic}
use Rattle.tb_asm.specs.Names.{fold_byte}
use Rattle.tb_asm.specs.Mnemonics.{mnemonic_of}
use Rattle.tb_assembly_text.specs.declared.words.Directive.{Directive}
use Rattle.tb_assembly_text.specs.declared.words.Directive.TheVariants.{Byte, Word, Text, Fill, Align, Origin, Include}
use Rattle.tb_assembly_text.specs.Names.{spells}

-- the mnemonic that a word in either case names
abbrev pub mnemonic_named : List ℕ → Option Mnemonic
mnemonic_named w = mnemonic_of (map fold_byte w)

-- the directive that a word names, in each assembler's spelling
abbrev pub directive_of : List ℕ → Option Directive
directive_of w =
    if spells w (codes ".BYTE") || spells w (codes ".BYT") || spells w (codes "!BYTE") then Some Byte else
    if spells w (codes ".WORD") || spells w (codes "!WORD") then Some Word else
    if spells w (codes ".TEXT") || spells w (codes "!TEXT") || spells w (codes "!PET") then Some Text else
    if spells w (codes ".FILL") || spells w (codes ".RES") || spells w (codes "!FILL") then Some Fill else
    if spells w (codes ".ALIGN") then Some Align else
    if spells w (codes ".ORG") then Some Origin else
    if spells w (codes ".INCLUDE") then Some Include else None

-- whether a word names an instruction or a directive
abbrev pub is_item : List ℕ → Bool
is_item w = is_some (mnemonic_named w) || is_some (directive_of w)
