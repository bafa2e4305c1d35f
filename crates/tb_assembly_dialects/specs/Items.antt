-- Items of the assembler as another one spells them.
use Rattle.std.specs.Prelude.{ℕ, Bool, true, false, ◌&&◌, not, List, [], ◌∷◌, ◌++◌, codes, length, nat_lt, eqb, if◌then◌else◌}
use Rattle.tb_words.specs.Hexadecimal.{two_digits, four_digits}
use Rattle.tb_opcodes.specs.declared.Mnemonic.{Mnemonic}
use Rattle.tb_opcodes.specs.declared.Mode.{Mode}
use Rattle.tb_opcodes.specs.declared.Mode.TheVariants.{Accumulator, Absolute, AbsoluteX, AbsoluteY, Indirect}
use Rattle.tb_asm.specs.declared.items.Operand.{Operand}
use Rattle.tb_asm.specs.declared.items.Operand.TheVariants.{Nothing, Byte, Word, Label, LowOf, HighOf}
use Rattle.tb_asm.specs.Layout.{Entry, instr, label, bytes, word}
use Rattle.tb_asm.specs.Mnemonics.{name_of}
use Rattle.tb_disasm.specs.ListingText.{item_text}
use Rattle.tb_assembly_dialects.specs.declared.dialect.Dialect.{Dialect}
use Rattle.tb_assembly_dialects.specs.Dialects.{accumulator, byte_directive, forced, word_directive}
use Rattle.tb_assembly_dialects.specs.Kernal.{is_jump, service_name}

-- bytes with commas between them, by what stands before the first
abbrev pub bytes_behind : List ℕ → List ℕ → List ℕ
bytes_behind before [] = []
bytes_behind before (b ∷ bs) = (before ++ two_digits b []) ++ bytes_behind (codes ",$") bs

-- the text of bytes: their directive, and the bytes with commas between them
abbrev pub bytes_text : Dialect → List ℕ → List ℕ
bytes_text d bs = bytes_behind (byte_directive d) bs ++ codes " "

-- the operand of a word
abbrev pub word_text : Operand → List ℕ
word_text (Label n) = n.letters.items ++ codes " "
word_text (Word w) = codes "$" ++ four_digits w (codes " ")
word_text o = []

-- what stands between a mnemonic and an address by its name
abbrev pub before_name : Mode → List ℕ
before_name Indirect = codes " ("
before_name m = codes " "

-- what stands after an address
abbrev pub behind : Mode → List ℕ
behind AbsoluteX = codes ",X "
behind AbsoluteY = codes ",Y "
behind Indirect = codes ") "
behind m = codes " "

-- an instruction with a name
abbrev pub with_name : Mnemonic → (before name behind : List ℕ) → List ℕ
with_name n before name behind = name_of n ++ before ++ name ++ behind

-- an instruction without an operand
abbrev pub alone : Dialect → Mnemonic → Mode → List ℕ
alone d n Accumulator = name_of n ++ accumulator d
alone d n m = name_of n ++ codes " "

-- whether a mode has an address of two bytes that other assemblers write in one byte if they can
abbrev pub has_short_form : Mode → Bool
has_short_form Absolute = true
has_short_form AbsoluteX = true
has_short_form AbsoluteY = true
has_short_form m = false

-- whether an address of two bytes has to be marked as such: it is below 256, and not that of a jump, which has no shorter form
abbrev pub is_forced : Mnemonic → Mode → ℕ → Bool
is_forced n m w = has_short_form m && (nat_lt w 256 && not (is_jump n))

-- the name of the service that an instruction jumps to; empty if it jumps to none
abbrev pub service_jumped_to : Mnemonic → Mode → ℕ → List ℕ
service_jumped_to n Absolute w = if is_jump n then service_name w else []
service_jumped_to n m w = []

-- an instruction with an address: marked, by the name of a service, or as `dis` lists it
abbrev pub with_address : Dialect → Mnemonic → Mode → ℕ → List ℕ
with_address d n m w =
    if is_forced n m w then name_of n ++ forced d ++ four_digits w (behind m) else
    if eqb (length (service_jumped_to n m w)) 0 then item_text (instr n m (Word w)) [] else
    name_of n ++ codes " " ++ service_jumped_to n m w ++ codes " "

-- an instruction
abbrev pub instruction : Dialect → Mnemonic → Mode → Operand → List ℕ
instruction d n m (Label l) = with_name n (before_name m) l.letters.items (behind m)
instruction d n m (LowOf l) = with_name n (codes " #<") l.letters.items (codes " ")
instruction d n m (HighOf l) = with_name n (codes " #>") l.letters.items (codes " ")
instruction d n m Nothing = alone d n m
instruction d n m (Byte b) = item_text (instr n m (Byte b)) []
instruction d n m (Word w) = with_address d n m w

-- an item; all but a label two spaces further right
abbrev pub item : Dialect → Entry → List ℕ
item d (label n) = n.letters.items ++ codes ":"
item d (instr n m o) = codes "  " ++ instruction d n m o
item d (bytes bs) = codes "  " ++ bytes_text d bs
item d (word o) = codes "  " ++ word_directive d ++ word_text o
