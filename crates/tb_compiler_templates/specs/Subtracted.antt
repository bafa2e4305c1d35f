-- Code that makes the remainder of a byte by a byte that it has at most four times, by differences.
use Rattle.std.specs.Prelude.{ℕ, ◌+◌, List, [], ◌∷◌, ◌++◌}
use Rattle.tb_opcodes.specs.declared.Mnemonic.TheVariants.{Bcc, Bcs, Beq, Bne, Cmp, Lda, Ldx, Ora, Sbc, Sta}
use Rattle.tb_asm.specs.Layout.{Entry}
use Rattle.tb_compiled_kept.specs.Addresses.{RESULT}
use Rattle.tb_compiler_templates.specs.Templates.{at, const}
use Rattle.tb_compiler_templates.specs.Sources.{Source, AtAddress}
use Rattle.tb_compiler_templates.specs.Reduced.{over}

-- the byte at an address is taken away from A; if A is below it, that is left out with n bytes more
abbrev pub less_once : (place n : ℕ) → List Entry
less_once place n = at Cmp place ∷ over Bcc n ∷ at Sbc place ∷ []

-- A is the remainder's size: the call of the routine, which comes next, is left out
abbrev pub left_in_result : List Entry
left_in_result = at Sta RESULT ∷ const Lda 0 ∷ at Sta (RESULT + 1) ∷ over Beq 23 ∷ []

-- both words are bytes, and the divisor is not 0: then the dividend is in A; else on to the call
abbrev pub bytes_asked : (dividend divisor : ℕ) → List Entry
bytes_asked dividend divisor = at Lda (dividend + 1) ∷ at Ora (divisor + 1) ∷ over Bne 55 ∷ at Ldx divisor ∷ over Beq 50 ∷ at Lda dividend ∷ []

-- if more than that is left, on to the call
abbrev pub all_taken : ℕ → List Entry
all_taken divisor = at Cmp divisor ∷ over Bcs 10 ∷ left_in_result

-- up to four differences
abbrev pub differences : ℕ → List Entry
differences divisor = less_once divisor 32 ++ (less_once divisor 24 ++ (less_once divisor 16 ++ less_once divisor 8))

-- the remainder of a byte by a byte
abbrev pub subtracted : (dividend divisor : ℕ) → List Entry
subtracted dividend divisor = bytes_asked dividend divisor ++ (differences divisor ++ all_taken divisor)

-- that before the call, if neither word is a constant
abbrev pub tried : Source → Source → List Entry → List Entry
tried (AtAddress p) (AtAddress q) es = subtracted p q ++ es
tried a b es = es
