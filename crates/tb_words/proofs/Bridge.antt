-- Signed numbers and words: each word's law follows from the signed one's, and back.
use Rattle.std.proofs.Common.{◌≡◌, ℕ, zero, suc, ◌-◌, ◌/◌, ◌%◌, ◌<◌, Bool, true, false, refl, arith, sym, ap, ◌∙◌, nat_lt, ◌∷◌}
use Rattle.std.specs.Prelude.{ℤ, pos, negsuc, ◌-ℤ◌}
use Rattle.std.proofs.lemmas.Bool.Decides.{nat_tests}
use Rattle.std.proofs.lemmas.Int.{ints, wrapping_neg_is}
use Rattle.std.specs.Int.{int_wrap, cast_signed, int_wrapping_div, int_wrapping_neg}
use Rattle.std.specs.Int.RustNames.{FitsSigned, unsigned_abs, int_div}
use Rattle.std.specs.Fmt.{signed_decimal}
use mir.Syntax.{w16}
use lib.IntN.{neg_ℤ, +ℤ_idl}
use Rattle.tb_words.specs.Signed.{wrapped}
use Rattle.tb_words.proofs.Division.{read, read_quotient}
use Rattle.tb_words.proofs.Decimal.{at_most_five_digits}
use Rattle.tb_words.specs.Words.{word, word_of, signed, is_negative, magnitude, negated, with_sign, differ, quotient, digits_of}

-- a word read as signed and back
pub word_of-cast : (n : ℕ) → n < 65536 → word_of (cast_signed w16 n) ≡ n
word_of-cast n h = by (nat_lt n 32768) refl
  where
    by : (t : Bool) → nat_lt n 32768 ≡ t → word_of (cast_signed w16 n) ≡ n
    by true e = let s : cast_signed w16 n ≡ pos n = simp e in rw s (omega arith)
    by false e = let s : cast_signed w16 n ≡ negsuc (65536 - suc n) = simp e in rw s (omega (arith, nat_tests))

-- wrapping a number does not change its word
pub word_of-wrapped : (z : ℤ) → word_of (wrapped z) ≡ word_of z
unfolding int_wrap
word_of-wrapped (pos n) = word_of-cast (n % 65536) (omega arith)
word_of-wrapped (negsuc n) = word_of-cast (65536 - 1 - n % 65536) (omega arith) ∙ omega arith

-- the magnitude of a signed number's word is its distance from zero
pub magnitude_is : (z : ℤ) → FitsSigned w16 z → magnitude (word_of z) ≡ unsigned_abs z
magnitude_is (pos n) f = let h = f.sfits in grind (arith, nat_tests)
magnitude_is (negsuc n) f = let h = f.sfits in grind (arith, nat_tests)

-- the word of a signed 16-bit number, read as signed, is that number
pub signed-word_of : (z : ℤ) → FitsSigned w16 z → signed (word_of z) ≡ z
signed-word_of (pos n) f = let h = f.sfits in let t : nat_lt 32767 (n % 65536) ≡ false = grind (arith, nat_tests) in rw t (omega (arith, ints))
signed-word_of (negsuc n) f = let h = f.sfits in let t : nat_lt 32767 (65535 - n % 65536) ≡ true = grind (arith, nat_tests) in rw t (omega (arith, ints))

-- ---- division

word_of-neg : (n : ℕ) → word_of (neg_ℤ (pos n)) ≡ negated (word n)
word_of-neg zero = refl
word_of-neg (suc n) = omega arith

below_zero : ℤ → Bool
below_zero (pos n) = false
below_zero (negsuc n) = true

sign_is : (z : ℤ) → FitsSigned w16 z → is_negative (word_of z) ≡ below_zero z
unfolding below_zero
sign_is (pos n) f = let h = f.sfits in grind (arith, nat_tests)
sign_is (negsuc n) f = let h = f.sfits in grind (arith, nat_tests)

-- the quotient of two signed numbers, as a word
word_of-div : (n d : ℤ) → word_of (int_div n d) ≡ with_sign (differ (below_zero n) (below_zero d)) (unsigned_abs n / unsigned_abs d)
unfolding below_zero
word_of-div (pos n) (pos d) = refl
word_of-div (pos n) (negsuc d) = word_of-neg (n / suc d)
word_of-div (negsuc n) (pos d) = word_of-neg (suc n / d)
word_of-div (negsuc n) (negsuc d) = refl

-- the quotient of two signed numbers, as a word, is the quotient of their words
pub quotient_is : (n d : ℤ) → FitsSigned w16 n → FitsSigned w16 d → word_of (int_div n d) ≡ quotient (word_of n) (word_of d)
quotient_is n d f g =
    word_of-div n d
    ∙ (λ i. with_sign (differ (sym (sign_is n f) i) (sym (sign_is d g) i)) (sym (magnitude_is n f) i / sym (magnitude_is d g) i))

-- the quotient that the code computes has the word that `quotient` gives
pub quotient_word : (n d q : ℤ) → FitsSigned w16 n → FitsSigned w16 d → FitsSigned w16 q → q ≡ int_wrapping_div w16 (read n) (read d)
    → word_of (read q) ≡ quotient (word_of n) (word_of d)
quotient_word n d q f g h e = ap word_of (read_quotient n d q f g h e) ∙ word_of-wrapped (int_div n d) ∙ quotient_is n d f g

-- the word of a number other than 0 is not 0
pub nonzero_word : (d : ℤ) → FitsSigned w16 d → (d ≡ pos 0 → ⊥) → word_of d ≡ 0 → ⊥
nonzero_word d f h e =
    let z : pos 0 ≡ d = ap signed (sym e) ∙ signed-word_of d f in
    h (sym z)

-- ---- negation and decimal text

-- the machine's negation is the wrapped negative
pub negation_is : (a : ℤ) → FitsSigned w16 a → int_wrapping_neg w16 a ≡ wrapped (pos 0 -ℤ a)
negation_is a f = wrapping_neg_is w16 a f ∙ ap wrapped (sym (+ℤ_idl (neg_ℤ a)))

-- the decimal text of a signed number is `digits_of` of its word
pub digits_are : (z : ℤ) → FitsSigned w16 z → signed_decimal z ≡ digits_of (word_of z)
digits_are (pos n) f =
    let h = f.sfits in
    let w : n % 65536 ≡ n = omega arith in
    let t : nat_lt 32767 n ≡ false = grind (arith, nat_tests) in
    rw (w, t) (sym (at_most_five_digits n (omega arith)))
digits_are (negsuc n) f =
    let h = f.sfits in
    let t : nat_lt 32767 (65535 - n % 65536) ≡ true = grind (arith, nat_tests) in
    let m : 65536 - (65535 - n % 65536) ≡ suc n = omega arith in
    rw (t, m) (ap (λ text. 45 ∷ text) (sym (at_most_five_digits (suc n) (omega arith))))
