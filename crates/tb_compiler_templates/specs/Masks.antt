-- Code that tests for a multiple of a power of two by the lowest bits of a word, or that makes the remainder of them.
use Rattle.std.specs.Prelude.{ℕ, ◌+◌, List, [], ◌∷◌, ◌++◌, if◌then◌else◌, nat_eq, Option, Some, None}
use Rattle.tb_opcodes.specs.declared.Mnemonic.TheVariants.{Adc, And, Bpl, Clc, Lda, Ldx, Ldy, Sbc, Sec, Sta, Stx, Tax, Tay, Tya}
use Rattle.tb_asm.specs.Layout.{Entry}
use Rattle.tb_compiler_templates.specs.declared.labels.Target.{Target}
use Rattle.tb_compiler_templates.specs.Templates.{alone, at, branch, const, here}
use Rattle.tb_compiler_templates.specs.Sources.{Source, FixedWord, AtAddress, low_of, high_of}

-- for a power of two from 2 to 256, that power minus one
abbrev pub mask_of : ℕ → Option ℕ
mask_of w = if nat_eq w 2 then Some 1 else if nat_eq w 4 then Some 3 else if nat_eq w 8 then Some 7 else if nat_eq w 16 then Some 15
    else if nat_eq w 32 then Some 31 else if nat_eq w 64 then Some 63 else if nat_eq w 128 then Some 127 else if nat_eq w 256 then Some 255 else None

-- the mask of a divisor
abbrev pub mask : Source → Option ℕ
mask (FixedWord w) = mask_of w
mask (AtAddress p) = None

-- these bits of a word, with Z set if they are 0
abbrev pub lowest_bits : ℕ → Source → List Entry
lowest_bits bits a = low_of Lda a ∷ const And bits ∷ []

-- these bits in A and 0 in X, with N set if the word is below 0
abbrev pub rest_and_sign : ℕ → Source → List Entry
rest_and_sign bits a = low_of Lda a ∷ const And bits ∷ const Ldx 0 ∷ high_of Ldy a ∷ []

-- in A and X the remainder of a word below 0, from these bits of it: the next multiple above it is taken away
abbrev pub rest_below : ℕ → List Entry
rest_below bits = alone Clc ∷ const Adc bits ∷ const And bits ∷ alone Sec ∷ const Sbc bits ∷ alone Tay ∷ const Lda 0 ∷ const Sbc 0 ∷ alone Tax ∷ alone Tya ∷ []

-- a word in A and X to an address
abbrev pub both_stored : ℕ → List Entry
both_stored to = at Sta to ∷ at Stx (to + 1) ∷ []

-- the remainder of a word by a power of two, with the word's sign
abbrev pub masked_rest : ℕ → Target → Source → ℕ → List Entry
masked_rest bits skip a to = rest_and_sign bits a ++ (branch Bpl skip ∷ (rest_below bits ++ (here skip ∷ both_stored to)))
