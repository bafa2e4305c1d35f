-- Code that makes a remainder by a constant: the divisor's multiples by powers of two are taken away, the largest first.
use Rattle.std.specs.Prelude.{ℕ, zero, suc, ◌+◌, ◌*◌, ◌/◌, ◌%◌, Bool, ◌&&◌, List, [], ◌∷◌, ◌++◌, if◌then◌else◌, nat_lt, Option, Some, None, option_map, unwrap_or}
use Rattle.tb_opcodes.specs.declared.Mnemonic.{Mnemonic}
use Rattle.tb_opcodes.specs.declared.Mnemonic.TheVariants.{Adc, Bcc, Beq, Bne, Bpl, Clc, Cmp, Cpx, Eor, Lda, Ldx, Ldy, Sbc, Tax, Tay, Txa, Tya}
use Rattle.tb_opcodes.specs.declared.Mode.TheVariants.{Relative}
use Rattle.tb_opcodes.specs.Opcodes.{encoded}
use Rattle.tb_asm.specs.declared.items.Operand.TheVariants.{Word}
use Rattle.tb_asm.specs.Layout.{Entry, word}
use Rattle.tb_compiler_templates.specs.Templates.{alone, const}
use Rattle.tb_compiler_templates.specs.Sources.{Source, FixedWord, AtAddress, low_of, high_of}
use Rattle.tb_compiler_templates.specs.Masks.{both_stored}

-- ── divisors ──
-- whether a number is above a low one and below a high one
abbrev pub is_between : ℕ → ℕ → ℕ → Bool
is_between low high w = nat_lt low w && nat_lt w high

-- for a divisor below 1,024 that is no power of two, how often it is doubled to come above 512
abbrev pub doublings_of : ℕ → Option ℕ
doublings_of w = if is_between 512 1024 w then Some 0 else if is_between 256 512 w then Some 1 else if is_between 128 256 w then Some 2
    else if is_between 64 128 w then Some 3 else if is_between 32 64 w then Some 4 else if is_between 16 32 w then Some 5
    else if is_between 8 16 w then Some 6 else if is_between 4 8 w then Some 7 else if is_between 2 4 w then Some 8 else None

-- that number and the divisor, if the divisor is such a constant
abbrev pub doublings : Source → Option (ℕ × ℕ)
doublings (FixedWord w) = option_map (λ n. (n, w)) (doublings_of w)
doublings (AtAddress p) = None

-- ── rounds ──
-- a branch over the next n bytes, as the two bytes that it takes
abbrev pub over : Mnemonic → ℕ → Entry
over mnemonic n = word (Word (unwrap_or (encoded mnemonic Relative) 0 + 256 * n))

-- a multiple is taken away from a byte in A that is not below it
abbrev pub byte_round : ℕ → List Entry
byte_round k = const Cmp k ∷ over Bcc 2 ∷ const Sbc k ∷ []

-- a multiple is taken away from a word in A and X that is not below it
abbrev pub word_round : ℕ → List Entry
word_round k =
    const Cpx (k / 256) ∷ over Bcc 14 ∷ over Bne 4 ∷ const Cmp (k % 256) ∷ over Bcc 8 ∷ const Sbc (k % 256) ∷ alone Tay ∷ alone Txa ∷ const Sbc (k / 256)
    ∷ alone Tax ∷ alone Tya ∷ []

-- a round for a multiple: what is left before it is below twice that, so it may be a byte
abbrev pub round : ℕ → List Entry
round k = if nat_lt k 128 then byte_round k else word_round k

-- n rounds, the last one for k: each is for half of what the one before it is for
abbrev pub rounds : ℕ → ℕ → List Entry
rounds zero k = []
rounds (suc n) k = rounds n (2 * k) ++ round k

-- ── the remainder ──
-- the word in A and X is negated
abbrev pub negated : List Entry
negated = const Eor 255 ∷ alone Clc ∷ const Adc 1 ∷ alone Tay ∷ alone Txa ∷ const Eor 255 ∷ const Adc 0 ∷ alone Tax ∷ alone Tya ∷ []

-- a word's size goes to A and X; a word from 0 to 255 goes past the first six rounds, since these are for more than 512
abbrev pub size_of_word : Source → List Entry
size_of_word a = low_of Lda a ∷ high_of Ldx a ∷ over Beq 123 ∷ over Bpl 13 ∷ negated

-- a size in A and X goes to an address, with the sign of a word
abbrev pub with_sign : Source → ℕ → List Entry
with_sign a to = high_of Ldy a ∷ over Bpl 13 ∷ (negated ++ both_stored to)

-- the remainder of a word by a divisor that n doublings bring above 512, with the word's sign
abbrev pub reduced_rest : (n divisor : ℕ) → Source → ℕ → List Entry
reduced_rest n divisor a to = size_of_word a ++ (rounds (n + 6) divisor ++ with_sign a to)
