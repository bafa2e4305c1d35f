-- Remainders of bytes by differences: their items are plain and few.
use Rattle.std.proofs.Common.{ℕ, ◌+◌, ◌≤◌, List, ◌++◌, refl, arith}
use Rattle.tb_opcodes.specs.declared.Mnemonic.TheVariants.{Bcc, Bcs, Beq, Bne, Cmp, Lda, Ldx, Ora, Sbc, Sta}
use Rattle.tb_asm.specs.Layout.{Entry}
use Rattle.tb_compiled_kept.specs.Addresses.{RESULT}
use Rattle.tb_assembly_settling.specs.Settled.{most}
use Rattle.tb_assembly_settling.proofs.Forms.{most_append}
use Rattle.tb_compiler_templates.specs.declared.sources.Source.{Source}
use Rattle.tb_compiler_templates.specs.declared.sources.Source.TheVariants.{FixedWord, AtAddress}
use Rattle.tb_compiler_templates.specs.Subtracted.{all_taken, bytes_asked, differences, less_once, subtracted, tried}
use Rattle.tb_compiler_templates.proofs.Multiples.{over_plain}
use Rattle.tb_compiler_templates.proofs.Plain.{ArePlain, ◌▹◌, absolute, immediate, plain_append}

once_plain : (q n : ℕ) → ArePlain (less_once q n)
once_plain q n = (absolute Cmp q refl ▹ over_plain Bcc n ▹ absolute Sbc q refl ▹ tt)

asked_plain : (p q : ℕ) → ArePlain (bytes_asked p q)
asked_plain p q =
    (absolute Lda (p + 1) refl ▹ absolute Ora (q + 1) refl ▹ over_plain Bne 55 ▹ absolute Ldx q refl ▹ over_plain Beq 50 ▹ absolute Lda p refl ▹ tt)

taken_plain : (q : ℕ) → ArePlain (all_taken q)
taken_plain q =
    (absolute Cmp q refl ▹ over_plain Bcs 10 ▹ absolute Sta RESULT refl ▹ immediate Lda 0 refl ▹ absolute Sta (RESULT + 1) refl ▹ over_plain Beq 23 ▹ tt)

differences_plain : (q : ℕ) → ArePlain (differences q)
differences_plain q =
    plain_append (less_once q 32) (less_once q 24 ++ (less_once q 16 ++ less_once q 8)) (once_plain q 32)
    (plain_append (less_once q 24) (less_once q 16 ++ less_once q 8) (once_plain q 24)
    (plain_append (less_once q 16) (less_once q 8) (once_plain q 16) (once_plain q 8)))

subtracted_plain : (p q : ℕ) → ArePlain (subtracted p q)
subtracted_plain p q =
    plain_append (bytes_asked p q) (differences q ++ all_taken q) (asked_plain p q) (plain_append (differences q) (all_taken q) (differences_plain q) (taken_plain q))

-- the items before a call are plain if those of the call are
pub tried_plain : (a b : Source) (es : List Entry) → ArePlain es → ArePlain (tried a b es)
tried_plain (AtAddress p) (AtAddress q) es h = plain_append (subtracted p q) es (subtracted_plain p q) h
tried_plain (AtAddress p) (FixedWord w) es h = h
tried_plain (FixedWord v) b es h = h

-- they take at most 63 bytes more
pub tried_size : (a b : Source) (es : List Entry) → most (tried a b es) ≤ 63 + most es
tried_size (AtAddress p) (AtAddress q) es = let e = most_append (subtracted p q) es in omega (arith, e)
tried_size (AtAddress p) (FixedWord w) es = omega arith
tried_size (FixedWord v) b es = omega arith
