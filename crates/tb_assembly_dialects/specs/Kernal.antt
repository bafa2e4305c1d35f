-- The names of the KERNAL's services, whose jumps lie from $FF81 on, three bytes each.
use Rattle.std.specs.Prelude.{ℕ, ◌+◌, ◌*◌, Bool, true, false, ◌&&◌, List, [], ◌∷◌, ◌++◌, codes, flat_map, map, eqb, if◌then◌else◌}
use Rattle.std.specs.List.{list_any, range_with_len}
use Rattle.tb_words.specs.Hexadecimal.{four_digits}
use Rattle.tb_opcodes.specs.declared.Mnemonic.{Mnemonic}
use Rattle.tb_opcodes.specs.declared.Mnemonic.TheVariants.{Jmp, Jsr}
use Rattle.tb_opcodes.specs.declared.Mode.TheVariants.{Absolute}
use Rattle.tb_asm.specs.declared.items.Operand.TheVariants.{Word}
use Rattle.tb_asm.specs.Layout.{Entry, instr}

-- the name of the service at an address; empty if none is there
abbrev pub service_name : ℕ → List ℕ
service_name at =
    if eqb at 0xFF81 then codes "SCINIT" else
    if eqb at 0xFF84 then codes "IOINIT" else
    if eqb at 0xFF87 then codes "RAMTAS" else
    if eqb at 0xFF8A then codes "RESTOR" else
    if eqb at 0xFF8D then codes "VECTOR" else
    if eqb at 0xFF90 then codes "SETMSG" else
    if eqb at 0xFF93 then codes "SECOND" else
    if eqb at 0xFF96 then codes "TKSA" else
    if eqb at 0xFF99 then codes "MEMTOP" else
    if eqb at 0xFF9C then codes "MEMBOT" else
    if eqb at 0xFF9F then codes "SCNKEY" else
    if eqb at 0xFFA2 then codes "SETTMO" else
    if eqb at 0xFFA5 then codes "ACPTR" else
    if eqb at 0xFFA8 then codes "CIOUT" else
    if eqb at 0xFFAB then codes "UNTLK" else
    if eqb at 0xFFAE then codes "UNLSN" else
    if eqb at 0xFFB1 then codes "LISTEN" else
    if eqb at 0xFFB4 then codes "TALK" else
    if eqb at 0xFFB7 then codes "READST" else
    if eqb at 0xFFBA then codes "SETLFS" else
    if eqb at 0xFFBD then codes "SETNAM" else
    if eqb at 0xFFC0 then codes "OPEN" else
    if eqb at 0xFFC3 then codes "CLOSE" else
    if eqb at 0xFFC6 then codes "CHKIN" else
    if eqb at 0xFFC9 then codes "CHKOUT" else
    if eqb at 0xFFCC then codes "CLRCHN" else
    if eqb at 0xFFCF then codes "CHRIN" else
    if eqb at 0xFFD2 then codes "CHROUT" else
    if eqb at 0xFFD5 then codes "LOAD" else
    if eqb at 0xFFD8 then codes "SAVE" else
    if eqb at 0xFFDB then codes "SETTIM" else
    if eqb at 0xFFDE then codes "RDTIM" else
    if eqb at 0xFFE1 then codes "STOP" else
    if eqb at 0xFFE4 then codes "GETIN" else
    if eqb at 0xFFE7 then codes "CLALL" else
    if eqb at 0xFFEA then codes "UDTIM" else
    if eqb at 0xFFED then codes "SCREEN" else
    if eqb at 0xFFF0 then codes "PLOT" else
    if eqb at 0xFFF3 then codes "IOBASE" else []

-- whether a mnemonic is that of a jump
abbrev pub is_jump : Mnemonic → Bool
is_jump Jmp = true
is_jump Jsr = true
is_jump n = false

-- whether an item jumps to an address by its number
abbrev pub jumps_to : ℕ → Entry → Bool
jumps_to at (instr n Absolute (Word w)) = is_jump n && eqb w at
jumps_to at e = false

-- whether one of these items does
abbrev pub any_jumps_to : ℕ → List Entry → Bool
any_jumps_to at es = list_any (jumps_to at) es

-- the line of a service that items jump to: its name and its address
abbrev pub service_text : List Entry → ℕ → List ℕ
service_text es at = if any_jumps_to at es then service_name at ++ codes " = $" ++ four_digits at (10 ∷ []) else []

-- the lines of all services that items jump to
abbrev pub services_text : List Entry → List ℕ
services_text es = flat_map (λ i. service_text es (0xFF81 + 3 * i)) (range_with_len 0 39)
