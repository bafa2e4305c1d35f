-- Code for products with a constant and quotients over a power of two: shifts and sums.
use Rattle.std.specs.Prelude.{ℕ, zero, suc, ◌+◌, ◌-◌, ◌/◌, ◌%◌, ◌^◌, Bool, true, false, ◌&&◌, List, [], ◌∷◌, ◌++◌}
use Rattle.std.specs.Prelude.{if◌then◌else◌, nat_eq, nat_le, nat_lt, Option, Some, None}
use Rattle.tb_opcodes.specs.declared.Mnemonic.{Mnemonic}
use Rattle.tb_opcodes.specs.declared.Mnemonic.TheVariants.{Adc, And, Asl, Clc, Cmp, Eor, Lda, Rol, Ror, Sta, Tax, Txa}
use Rattle.tb_opcodes.specs.declared.Mode.TheVariants.{Accumulator, ZeroPage}
use Rattle.tb_asm.specs.declared.items.Operand.TheVariants.{Nothing, Byte}
use Rattle.tb_asm.specs.Layout.{Entry, instr}
use Rattle.tb_compiled_kept.specs.Addresses.{LEFT}
use Rattle.tb_compiler_templates.specs.Templates.{at, const, alone}
use Rattle.tb_compiler_templates.specs.Sources.{Source, FixedWord, AtAddress, low_of, high_of}

-- an instruction on A
abbrev pub on_a : Mnemonic → Entry
on_a mnemonic = instr mnemonic Accumulator Nothing

-- an instruction on a byte of page zero
abbrev pub at_zero : Mnemonic → ℕ → Entry
at_zero mnemonic place = instr mnemonic ZeroPage (Byte place)

-- ── over a power of two ──
-- the word's low byte is in LEFT, its high byte in A

-- for 2^(k + 1) from 2 to 256, k
abbrev pub shifts_of : ℕ → Option ℕ
shifts_of w = if nat_eq w 2 then Some 0 else if nat_eq w 4 then Some 1 else if nat_eq w 8 then Some 2 else if nat_eq w 16 then Some 3
    else if nat_eq w 32 then Some 4 else if nat_eq w 64 then Some 5 else if nat_eq w 128 then Some 6 else if nat_eq w 256 then Some 7 else None

-- k, if a divisor is such a constant
abbrev pub shifts : Source → Option ℕ
shifts (FixedWord w) = shifts_of w
shifts (AtAddress p) = None

-- 2^(k + 1) - 2
abbrev pub all_but_lowest : ℕ → ℕ
all_but_lowest k = 2 ^ (k + 1) - 2

-- the low byte of a word, and 2^(k + 1) - 1 more if C is set
abbrev pub rounded : ℕ → Source → List Entry
rounded zero a = low_of Lda a ∷ const Adc 0 ∷ []
rounded (suc k) a = const Lda 0 ∷ const Adc 255 ∷ const And (all_but_lowest (suc k)) ∷ const Eor (all_but_lowest (suc k)) ∷ low_of Adc a ∷ []

-- a word, and 2^(k + 1) - 1 more if it is negative: so the shifts round it toward zero
abbrev pub raised : ℕ → Source → List Entry
raised k a = high_of Lda a ∷ const Cmp 128 ∷ (rounded k a ++ (at_zero Sta LEFT ∷ high_of Lda a ∷ const Adc 0 ∷ []))

-- shifted to the right, its sign kept
abbrev pub halved : List Entry
halved = const Cmp 128 ∷ on_a Ror ∷ at_zero Ror LEFT ∷ []

-- shifted this many times
abbrev pub halvings : ℕ → List Entry
halvings zero = []
halvings (suc k) = halvings k ++ halved

-- the word is stored at its address
abbrev pub high_first : ℕ → List Entry
high_first to = at Sta (to + 1) ∷ at_zero Lda LEFT ∷ at Sta to ∷ []

-- over 128 or 256: the quotient's low byte goes to A, its sign to C
abbrev pub cut : ℕ → List Entry
cut k = if nat_eq k 6 then at_zero Asl LEFT ∷ on_a Rol ∷ [] else const Cmp 128 ∷ []

-- a byte is stored at an address, and after it 255 if C is set, and else 0
abbrev pub widened : ℕ → List Entry
widened to = at Sta to ∷ const Lda 0 ∷ const Adc 255 ∷ const Eor 255 ∷ at Sta (to + 1) ∷ []

-- the quotient of a raised word is stored: over 2 to 64 it is shifted to the right; of one over 128 or 256, one byte is all but its sign
abbrev pub lowered : ℕ → ℕ → List Entry
lowered k to = if nat_lt k 6 then halvings (suc k) ++ high_first to else cut k ++ widened to

-- a word over 2^(k + 1)
abbrev pub shifted : ℕ → Source → ℕ → List Entry
shifted k a to = raised k a ++ lowered k to

-- ── times a constant ──
-- the product's low byte is in A, its high byte in LEFT

-- twice the product so far
abbrev pub doubled : List Entry
doubled = on_a Asl ∷ at_zero Rol LEFT ∷ []

-- the product so far and a word more
abbrev pub increased : Source → List Entry
increased a = alone Clc ∷ low_of Adc a ∷ alone Tax ∷ at_zero Lda LEFT ∷ high_of Adc a ∷ at_zero Sta LEFT ∷ alone Txa ∷ []

-- the product so far, on by one bit of the factor
abbrev pub by_bit : Bool → Source → List Entry
by_bit false a = doubled
by_bit true a = doubled ++ increased a

-- the product by at most this many bits of a factor, those below its highest one
abbrev pub by_bits : ℕ → ℕ → Source → List Entry
by_bits zero factor a = []
by_bits (suc k) factor a = if nat_lt factor 2 then [] else by_bits k (factor / 2) a ++ by_bit (nat_eq (factor % 2) 1) a

-- the number of bytes that this takes at most
abbrev pub bits_size : ℕ → ℕ → ℕ
bits_size zero factor = 0
bits_size (suc k) factor = if nat_lt factor 2 then 0 else bits_size k (factor / 2) + (if nat_eq (factor % 2) 1 then 16 else 3)

-- a factor that is worth it: its bits take no more room than a product has
abbrev pub is_factor : ℕ → Bool
is_factor factor = nat_le 2 factor && nat_le (bits_size 15 factor) 60

-- a constant that is a factor, and the other word of a product
abbrev pub with_factor : ℕ → Source → Option (ℕ × Source)
with_factor factor a = if is_factor factor then Some (factor, a) else None

-- the constant of a product that is multiplied by its bits, and the other word
abbrev pub scaling : Source → Source → Option (ℕ × Source)
scaling a (FixedWord w) = with_factor w a
scaling (FixedWord v) (AtAddress q) = with_factor v (AtAddress q)
scaling (AtAddress p) (AtAddress q) = None

-- the product is stored at its address
abbrev pub low_first : ℕ → List Entry
low_first to = at Sta to ∷ at_zero Lda LEFT ∷ at Sta (to + 1) ∷ []

-- a word times a factor
abbrev pub times : ℕ → Source → ℕ → List Entry
times factor a to = high_of Lda a ∷ at_zero Sta LEFT ∷ low_of Lda a ∷ (by_bits 15 factor a ++ low_first to)
