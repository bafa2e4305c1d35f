-- The items of a test by a divisor are plain, except its branch; and which divisors are tested by the lowest bits.
use Rattle.std.proofs.Common.{◌≡◌, ℕ, ◌+◌, ◌-◌, ◌^◌, ◌<◌, Bool, true, false, List, [], ◌∷◌, ◌++◌, refl, arith, Option, Some, None}
use Rattle.std.specs.Prelude.{if◌then◌else◌, nat_lt}
use Rattle.tb_opcodes.specs.declared.Mnemonic.{Mnemonic}
use Rattle.tb_opcodes.specs.declared.Mnemonic.TheVariants.{And, Jsr, Lda, Ora, Sta}
use Rattle.tb_opcodes.specs.declared.Mode.TheVariants.{Absolute, ZeroPage}
use Rattle.tb_asm.specs.declared.items.Operand.TheVariants.{Byte, Word}
use Rattle.tb_asm.specs.Layout.{Entry, instr}
use Rattle.tb_compiled_kept.specs.Addresses.{LEFT, LINE, RESULT, RIGHT}
use Rattle.tb_runtime16.specs.Addresses.{DIVIDE_AT}
use Rattle.tb_compiler_templates.specs.Templates.{call, constant, copied, on}
use Rattle.tb_compiler_templates.specs.declared.sources.Source.{Source}
use Rattle.tb_compiler_templates.specs.declared.sources.Source.TheVariants.{FixedWord, AtAddress}
use Rattle.tb_compiler_templates.specs.GroupTemplates.{asked_rest, brought, left_over, lined, may_be_zero, remainder, told}
use Rattle.tb_compiler_templates.specs.Masks.{mask}
use Rattle.tb_compiler_program.proofs.Factors.{one_of}
use Rattle.tb_compiler_program.proofs.Subtractions.{tried_plain}
use Rattle.tb_compiler_templates.proofs.Plain.{IsPlain, ArePlain, Is, ◌▹◌, plain_append, immediate, absolute, zero_page, low_byte, high_byte}

-- ── plain items ──
on_plain : (m : Mnemonic) (p : ℕ) → Is m ZeroPage → Is m Absolute → IsPlain (on m p)
on_plain m p h k = by (nat_lt p 256)
  where
    by : (t : Bool) → IsPlain (instr m (if t then ZeroPage else Absolute) (if t then Byte p else Word p))
    by true = zero_page m p h
    by false = absolute m p k

brought_plain : (a : Source) (to : ℕ) → ArePlain (brought a to)
brought_plain a to = (low_byte Lda a refl refl ▹ on_plain Sta to refl refl ▹ high_byte Lda a refl refl ▹ on_plain Sta (to + 1) refl refl ▹ tt)

remainder_plain : (a b : Source) → ArePlain (remainder a b)
remainder_plain a b =
    plain_append (brought a LEFT) (brought b RIGHT ++ told) (brought_plain a LEFT)
    (plain_append (brought b RIGHT) told (brought_plain b RIGHT) (absolute Jsr DIVIDE_AT refl ▹ absolute Lda RESULT refl ▹ absolute Ora (RESULT + 1) refl ▹ tt))

asked_plain : (a b : Source) → ArePlain (brought a LEFT ++ (brought b RIGHT ++ (call DIVIDE_AT ∷ [])))
asked_plain a b =
    plain_append (brought a LEFT) (brought b RIGHT ++ (call DIVIDE_AT ∷ [])) (brought_plain a LEFT)
    (plain_append (brought b RIGHT) (call DIVIDE_AT ∷ []) (brought_plain b RIGHT) (absolute Jsr DIVIDE_AT refl ▹ tt))

lined_plain : (t : Bool) (n : ℕ) (es : List Entry) → ArePlain es → ArePlain (lined t n es)
lined_plain true n es h =
    plain_append (constant n LINE) es (immediate Lda _ refl ▹ absolute Sta LINE refl ▹ immediate Lda _ refl ▹ absolute Sta (LINE + 1) refl ▹ tt) h
lined_plain false n es h = h

-- the items that compute a remainder for a test are plain
pub left_over_plain : (n : ℕ) (o : Option ℕ) (a b : Source) → ArePlain (left_over n o a b)
left_over_plain n (Some bits) a b = (low_byte Lda a refl refl ▹ immediate And bits refl ▹ tt)
left_over_plain n None a b = lined_plain (may_be_zero b) n (remainder a b) (remainder_plain a b)

-- the items that compute a remainder with its size are plain
pub asked_rest_plain : (n : ℕ) (a b : Source) → ArePlain (asked_rest n a b)
asked_rest_plain n a b = lined_plain (may_be_zero b) n _ (tried_plain a b _ (asked_plain a b))

-- the items that copy a word are plain
pub copied_plain : (from to : ℕ) → ArePlain (copied from to)
copied_plain from to = (on_plain Lda from refl refl ▹ absolute Sta to refl ▹ on_plain Lda (from + 1) refl refl ▹ absolute Sta (to + 1) refl ▹ tt)

-- ── by the lowest bits ──
-- a divisor that is 2^(k + 1), with its mask, or any other
pub data IsMasking (b : Source) : Option ℕ → Type 0 where
  by_bits : (w k : ℕ) → b ≡ FixedWord w → k < 8 → w ≡ 2 ^ (k + 1) → IsMasking b (Some (2 ^ (k + 1) - 1))
  by_division : IsMasking b None

-- the mask is right for each divisor
pub masking_is : (b : Source) → IsMasking b (mask b)
masking_is (FixedWord w) =
    let P = λ (o : Option ℕ). IsMasking (FixedWord w) o in
    one_of P w 2 1 _ (by_bits w 0 refl (omega arith))
    (one_of P w 4 3 _ (by_bits w 1 refl (omega arith))
    (one_of P w 8 7 _ (by_bits w 2 refl (omega arith))
    (one_of P w 16 15 _ (by_bits w 3 refl (omega arith))
    (one_of P w 32 31 _ (by_bits w 4 refl (omega arith))
    (one_of P w 64 63 _ (by_bits w 5 refl (omega arith))
    (one_of P w 128 127 _ (by_bits w 6 refl (omega arith))
    (one_of P w 256 255 _ (by_bits w 7 refl (omega arith)) by_division)))))))
masking_is (AtAddress p) = by_division
