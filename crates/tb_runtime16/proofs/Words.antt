-- Words in two bytes, in the form in which the processor's definitions give them.
use Rattle.std.proofs.Common.{◌≡◌, ℕ, ◌+◌, ◌-◌, ◌*◌, ◌/◌, ◌%◌, ◌<◌, ◌≤◌, Bool, true, false, not, if◌then◌else◌}
use Rattle.std.proofs.Common.{refl, sym, ap, ◌∙◌, ⊎_elim, arith, eqb, mul_assoc, mul_comm}
use Rattle.std.proofs.lemmas.Bool.{cases_eq, cases_lt, eq-eqb, ne_eqb, le-leb, lt-leb, leb-true}
use Rattle.std.proofs.lemmas.Nat.{mul-mod_first}
use Rattle.std.proofs.Math.Nat.{add-mod-mod, mod-add-mod, div-le_self}
use Rattle.std.specs.Prelude.{nat_lt, nat_le}
use Rattle.tb_cpu.specs.Effects.{bit}
use Rattle.tb_words.specs.Words.{word, is_negative, magnitude, negated, with_sign, differ, quotient}

-- ---- powers, bytes, bits and carries
pub small_byte : (n : ℕ) → n % 256 < 256
small_byte n = omega arith

-- bit 0 of a number is its remainder by 2
pub one_odd : (n : ℕ) → bit (eqb (n / 1 % 2) 1) ≡ n % 2
one_odd n = ⊎_elim (λ e. ap bit (eq-eqb (n / 1 % 2) 1 e) ∙ omega arith) (λ e. ap bit (ne_eqb (n / 1 % 2) 1 e) ∙ omega arith) (cases_eq (n / 1 % 2) 1)

-- bit 7 of a byte is its quotient by 128
pub one_high : (n : ℕ) → n < 256 → bit (eqb (n / 128 % 2) 1) ≡ n / 128
one_high n h = ⊎_elim (λ e. ap bit (eq-eqb (n / 128 % 2) 1 e) ∙ omega arith) (λ e. ap bit (ne_eqb (n / 128 % 2) 1 e) ∙ omega arith) (cases_eq (n / 128 % 2) 1)

-- the carry of a sum of bytes is its quotient by 256
pub one_carry : (n : ℕ) → n < 512 → bit (nat_lt 255 n) ≡ n / 256
one_carry n h = ⊎_elim (λ e. ap bit (lt-leb 256 n e) ∙ omega arith) (λ e. ap bit (le-leb 256 n e) ∙ omega arith) (cases_lt n 256)

-- the borrow of a subtraction
pub borrow : (k l : ℕ) → k < 257 → l < 256 → bit (not (nat_le k l)) ≡ (255 + k - l) / 256
borrow k l p q = ⊎_elim (λ e. ap (λ b. bit (not b)) (lt-leb k l e) ∙ omega arith) (λ e. ap (λ b. bit (not b)) (le-leb k l e) ∙ omega arith) (cases_lt l k)

-- ---- shifts and sums
pub halved : (l h : ℕ) → l < 256 → h < 256 → l / 2 + 128 * bit (eqb (h / 1 % 2) 1) + 256 * (h / 2) ≡ (l + 256 * h) / 2
halved l h p q = omega (arith, one_odd h)

-- ASL low, ROL high doubles a word
pub doubled : (l h : ℕ) → l < 256 → h < 256 → 2 * l % 256 + 256 * (2 * h % 256 + bit (eqb (l / 128 % 2) 1)) ≡ 2 * (l + 256 * h) % 65536
doubled l h p q = omega (arith, one_high l p)

-- CLC, ADC low, ADC high adds two words
pub added : (l h k j : ℕ) → l < 256 → h < 256 → k < 256 → j < 256 → (l + k + 0) % 256 + 256 * ((h + j + bit (nat_lt 255 (l + k + 0))) % 256) ≡ (l + 256 * h + (k + 256 * j)) % 65536
added l h k j p q r s = omega (arith, one_carry (l + k + 0) (omega arith))

-- the bit that a shift to the left moves out of a word
pub carried : (l h : ℕ) → l < 256 → h < 256 → bit (eqb (h / 128 % 2) 1) ≡ (l + 256 * h) / 32768
carried l h p q = omega (arith, one_high h q)

-- a shift to the left that takes a bit in
pub doubled_in : (l h c : ℕ) → l < 256 → h < 256 → c < 2 → 2 * l % 256 + c + 256 * (2 * h % 256 + bit (eqb (l / 128 % 2) 1)) ≡ (2 * (l + 256 * h) + c) % 65536
doubled_in l h c p q r = omega (arith, one_high l p)

-- ---- the turn of a multiplication
pub turn_even : (r p q : ℕ) → q % 2 ≡ 0 → (r + 2 * p * (q / 2)) % 65536 ≡ (r + p * q) % 65536
turn_even r p q e =
    let h : q ≡ 2 * (q / 2) = omega arith in
    ap (λ x. (r + x) % 65536) (ap (λ x. x * (q / 2)) (mul_comm 2 p) ∙ mul_assoc p 2 (q / 2) ∙ ap (λ x. p * x) (sym h))

-- the turn of an odd bit adds, and goes on with half the factor
pub turn_odd : (r p q : ℕ) → q % 2 ≡ 1 → ((r + p) % 65536 + 2 * p * (q / 2)) % 65536 ≡ (r + p * q) % 65536
turn_odd r p q e =
    let h : q ≡ 2 * (q / 2) + 1 = omega arith in
    let d : 2 * p * (q / 2) ≡ p * (2 * (q / 2)) = ap (λ x. x * (q / 2)) (mul_comm 2 p) ∙ mul_assoc p 2 (q / 2) in
    let s : p * (2 * (q / 2) + 1) ≡ p * (2 * (q / 2)) + p = grind arith in
    mod-add-mod (r + p) 65536 (2 * p * (q / 2)) ∙ ap (λ x. x % 65536) (let t : r + p + 2 * p * (q / 2) ≡ r + p * q = omega (arith, d, s, ap (λ x. p * x) h) in t)

-- the doubled factor may wrap
pub turn_double : (r p q : ℕ) → (r + 2 * p % 65536 * q) % 65536 ≡ (r + 2 * p * q) % 65536
turn_double r p q = sym (add-mod-mod r (2 * p % 65536 * q) 65536) ∙ ap (λ x. (r + x) % 65536) (mul-mod_first (2 * p) q 65536) ∙ add-mod-mod r (2 * p * q) 65536

-- ---- SEC, SBC, SBC
pub subtracted : (l h k j : ℕ) → l < 256 → h < 256 → k < 256 → j < 256 → (l + 256 - (k + 0)) % 256
    + 256 * ((h + 256 - (j + bit (not (nat_le (k + 0) l)))) % 256) ≡ (l + 256 * h + (65536 - (k + 256 * j))) % 65536
subtracted l h k j p q r s = omega (arith, borrow (k + 0) l (omega arith) p)

-- SEC, SBC low, SBC high leaves the carry set if the first word is at least the second
pub compared : (l h k j : ℕ) → l < 256 → h < 256 → k < 256 → j < 256 → k + 256 * j ≤ l + 256 * h → nat_le (j + bit (not (nat_le (k + 0) l))) h ≡ true
compared l h k j p q r s e = le-leb _ h (omega (arith, borrow (k + 0) l (omega arith) p))

-- SEC, SBC low, SBC high leaves the carry clear if the first word is less
pub compared_less : (l h k j : ℕ) → l < 256 → h < 256 → k < 256 → j < 256 → l + 256 * h < k + 256 * j → nat_le (j + bit (not (nat_le (k + 0) l))) h ≡ false
compared_less l h k j p q r s e = lt-leb _ h (omega (arith, borrow (k + 0) l (omega arith) p))

-- a word subtracted from 0
pub taken_from_zero : (k j : ℕ) → k < 256 → j < 256 → (0 + 256 - (k + 0)) % 256 + 256 * ((0 + 256 - (j + bit (not (nat_le (k + 0) 0)))) % 256) ≡ negated (k + 256 * j)
taken_from_zero k j r s = subtracted 0 0 k j (omega arith) (omega arith) r s ∙ ap (λ x. x % 65536) (let t : 0 + 256 * 0 + (65536 - (k + 256 * j)) ≡ 65536 - (k + 256 * j) = omega arith in t)

-- ---- signs
-- the sign of a word is its high byte's
pub sign_of : (l h : ℕ) → l < 256 → h < 256 → eqb (h / 128 % 2) 1 ≡ is_negative (l + 256 * h)
sign_of l h p q = ⊎_elim (λ e. ne_eqb (h / 128 % 2) 1 (λ x. omega arith) ∙ sym (lt-leb 32768 (l + 256 * h) (omega arith)))
    (λ e. eq-eqb (h / 128 % 2) 1 (omega arith) ∙ sym (le-leb 32768 (l + 256 * h) (omega arith))) (cases_lt h 128)

-- the size of a word that is read as negative
pub magnitude_negative : (w : ℕ) → is_negative w ≡ true → magnitude w ≡ 65536 - w
magnitude_negative w e = ap (λ b. if b then 65536 - w else w) e

-- the size of any other word
pub magnitude_positive : (w : ℕ) → is_negative w ≡ false → magnitude w ≡ w
magnitude_positive w e = ap (λ b. if b then 65536 - w else w) e

-- negating a number with a sign turns the sign
pub negated_sign : (b : Bool) (n : ℕ) → n ≤ 32768 → negated (with_sign b n) ≡ with_sign (not b) n
negated_sign true n h = omega arith
negated_sign false n h = refl

-- a negative word is at least 32,768
pub sign_small : (w : ℕ) → is_negative w ≡ true → 32768 ≤ w
sign_small w e = leb-true 32768 w e

-- any other word is below 32,768
pub sign_none : (w : ℕ) → is_negative w ≡ false → w < 32768
sign_none w e = ⊎_elim (λ h. h) (λ h. let t : false ≡ true = sym e ∙ le-leb 32768 w h in cc) (cases_lt w 32768)

-- the signed quotient of a word that is not negative
pub quotient_positive : (n d : ℕ) → is_negative n ≡ false → quotient n d ≡ with_sign (is_negative d) (n / magnitude d)
quotient_positive n d e = ap (λ b. with_sign (differ b (is_negative d)) ((if b then 65536 - n else n) / magnitude d)) e

-- the signed quotient of a negative word
pub quotient_negative : (n d : ℕ) → n < 65536 → is_negative n ≡ true → quotient n d ≡ with_sign (not (is_negative d)) (negated n / magnitude d)
quotient_negative n d p e =
    let h = sign_small n e in
    ap (λ b. with_sign (differ b (is_negative d)) ((if b then 65536 - n else n) / magnitude d)) e
    ∙ ap (λ x. with_sign (not (is_negative d)) (x / magnitude d)) (let t : 65536 - n ≡ negated n = omega (arith, h) in t)

-- a word that is read as negative, negated
pub negated_size : (d : ℕ) → d < 65536 → is_negative d ≡ true → negated d ≡ magnitude d
negated_size d p e = let h = sign_small d e in let t : negated d ≡ 65536 - d = omega (arith, h, p) in t ∙ sym (magnitude_negative d e)

-- the sign of a quotient by a divisor that is not negative
pub with_sign_positive : (d n : ℕ) → n ≤ 32768 → is_negative d ≡ false → with_sign (is_negative d) (n / magnitude d) ≡ n / d
with_sign_positive d n h e = ap (λ b. with_sign b (n / magnitude d)) e ∙ ap (λ x. word (n / x)) (magnitude_positive d e)
    ∙ (let s = div-le_self n d in let t : n / d % 65536 ≡ n / d = omega (arith, s) in t)

-- the sign of a quotient by a negative divisor
pub with_sign_negative : (d n : ℕ) → n ≤ 32768 → is_negative d ≡ true → with_sign (is_negative d) (n / magnitude d) ≡ negated (n / magnitude d)
with_sign_negative d n h e = ap (λ b. with_sign b (n / magnitude d)) e ∙ (let s = div-le_self n (magnitude d) in
    ap negated (let t : n / magnitude d % 65536 ≡ n / magnitude d = omega (arith, s) in t))
