-- The search for the line of a computed GOTO or GOSUB: its number is compared with those of few lines in turn, and with
-- those of more by a search in the line table.
use Rattle.std.specs.Prelude.{ℕ, ◌+◌, ◌-◌, ◌*◌, ◌/◌, ◌%◌, Bool, true, false, ◌&&◌, ◌||◌, nat_eq, nat_le, nat_lt, List, [], ◌∷◌, ◌++◌, length}
use Rattle.tb_opcodes.specs.declared.Mnemonic.TheVariants.{Cmp, Cpx, Jmp, Lda, Ldx, Rts, Sta}
use Rattle.tb_asm.specs.Layout.{Entry, bytes}
use Rattle.tb_lower.specs.Slots.{Instr, Jump, Call, SlotCode}
use Rattle.tb_compiled_kept.specs.Addresses.{LINES_AT, TABLE, COUNT, WANTED, RESULT}
use Rattle.tb_runtime16.specs.Addresses.{SEARCH_AT}
use Rattle.tb_compiler_templates.specs.declared.labels.Target.TheVariants.{Line, Find, Table}
use Rattle.tb_compiler_templates.specs.Templates.{at, const, alone, here, constant, address, low_part, high_part}
use Rattle.tb_compiler_program.specs.Sizes.{lines_price, lines_room, rest_price, rest_room}

-- ── when numbers are compared ──
-- whether an instruction goes to a line that slot 0 names
abbrev pub is_computed : Instr → Bool
is_computed Jump = true
is_computed Call = true
is_computed _ = false

-- whether one of these instructions does
abbrev pub some_computed : List Instr → Bool
some_computed [] = false
some_computed (i ∷ is) = is_computed i || some_computed is

-- whether one of a program's instructions does
abbrev pub has_computed : SlotCode → Bool
has_computed [] = false
has_computed (line ∷ lines) = some_computed line.content || has_computed lines

-- how many bytes the comparisons with this many numbers take
abbrev pub comparisons_size : ℕ → ℕ
comparisons_size count = 6 + 19 * count

-- how many bytes there are for code and line table
abbrev pub code_space : ℕ
code_space = 0xA000 - LINES_AT

-- how many lines a program has less than, if its numbers are compared
abbrev pub too_many_lines : ℕ
too_many_lines = 64

-- what the code leaves of them, whatever it takes
abbrev pub bytes_left : SlotCode → ℕ
bytes_left code = code_space - rest_room - lines_room code

-- what of the bytes with the comparisons is more than the program's cost, whatever the code takes
abbrev pub unpaid : SlotCode → ℕ
unpaid code = comparisons_size (length code) + (code_space - bytes_left code) - rest_price - lines_price code

-- whether numbers are compared: few lines, of which one needs it; and there is room for it, by the memory and by the cost
abbrev pub compares : SlotCode → Bool
compares code =
    nat_lt (length code) too_many_lines
    && (has_computed code && (nat_le (comparisons_size (length code)) (bytes_left code) && nat_eq (unpaid code) 0))

-- ── its code ──
-- if the number in A and X is that of this line, the line's address goes to the result
abbrev pub compared : ℕ → List Entry
compared n =
    const Cmp (n % 256) ∷ bytes (0xD0 ∷ 15 ∷ []) ∷ const Cpx (n / 256) ∷ bytes (0xD0 ∷ 11 ∷ [])
    ∷ low_part (Line n) ∷ at Sta RESULT ∷ high_part (Line n) ∷ at Sta (RESULT + 1) ∷ alone Rts ∷ []

-- if the number in A and X is that of one of these lines, that line's address goes to the result
abbrev pub all_compared : List ℕ → List Entry
all_compared [] = []
all_compared (n ∷ ns) = compared n ++ all_compared ns

-- the comparisons, if there are any
abbrev pub comparisons : Bool → List ℕ → List Entry
comparisons true ns = at Lda WANTED ∷ at Ldx (WANTED + 1) ∷ all_compared ns
comparisons false ns = []

-- the search in the line table
abbrev pub looked_up : ℕ → List Entry
looked_up count = address Table TABLE ++ (constant count COUNT ++ (at Jmp SEARCH_AT ∷ []))

-- the search for a line: the comparisons, and then the search in the line table
abbrev pub find_code : Bool → List ℕ → List Entry
find_code t ns = here Find ∷ (comparisons t ns ++ looked_up (length ns))
