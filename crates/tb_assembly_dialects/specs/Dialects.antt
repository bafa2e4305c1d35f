-- How each assembler spells what they spell in different ways.
use Rattle.std.specs.Prelude.{ℕ, ◌+◌, Bool, true, false, List, [], codes, nat_lt}
use Rattle.tb_assembly_dialects.specs.declared.dialect.Dialect.{Dialect}
use Rattle.tb_assembly_dialects.specs.declared.dialect.Dialect.TheVariants.{Tass64, Ca65, Acme, Xa}

-- what stands before bytes
abbrev pub byte_directive : Dialect → List ℕ
byte_directive Tass64 = codes ".byte $"
byte_directive Ca65 = codes ".byte $"
byte_directive Acme = codes "!byte $"
byte_directive Xa = codes ".byte $"

-- what stands before a word
abbrev pub word_directive : Dialect → List ℕ
word_directive Tass64 = codes ".word "
word_directive Ca65 = codes ".word "
word_directive Acme = codes "!word "
word_directive Xa = codes ".word "

-- the operand of the accumulator mode
abbrev pub accumulator : Dialect → List ℕ
accumulator Tass64 = codes " A "
accumulator Ca65 = codes " A "
accumulator Acme = codes " "
accumulator Xa = codes " "

-- what stands between a mnemonic and the digits of an address below 256 that takes two bytes
abbrev pub forced : Dialect → List ℕ
forced Tass64 = codes " @w $"
forced Ca65 = codes " a:$"
forced Acme = codes "+2 $"
forced Xa = codes " !$"

-- the command for ca65, by whether the file is larger than ld65 has room for without a configuration
abbrev pub ca65_command : Bool → List ℕ
ca65_command false = codes "; ca65 -o IN.o IN && ld65 -t none -o OUT.prg IN.o\n"
ca65_command true =
    codes "; ca65 -o IN.o IN && ld65 -C CONFIG -o OUT.prg IN.o\n; CONFIG: MEMORY { ALL: start = 0, size = $10000; } SEGMENTS { CODE: load = ALL; }\n"

-- whether a load address and this many bytes are more than the 26,624 bytes that ld65 has room for without a configuration
abbrev pub is_large : ℕ → Bool
is_large size = nat_lt 26624 (size + 2)

-- the comment at the top of a listing of this many bytes: the command that assembles it
abbrev pub command : Dialect → ℕ → List ℕ
command Tass64 size = codes "; 64tass -o OUT.prg IN\n"
command Ca65 size = ca65_command (is_large size)
command Acme size = codes "; acme -f cbm -o OUT.prg IN\n"
command Xa size = codes "; xa -o OUT.prg IN\n"

-- what stands before the digits of the load address; empty where the assembler writes it by itself
abbrev pub load_word : Dialect → List ℕ
load_word Tass64 = []
load_word Ca65 = codes "  .word $"
load_word Acme = []
load_word Xa = codes "  .word $"

-- what stands before the digits of the origin
abbrev pub origin : Dialect → List ℕ
origin Tass64 = codes "* = $"
origin Ca65 = codes "  .org $"
origin Acme = codes "* = $"
origin Xa = codes "* = $"
