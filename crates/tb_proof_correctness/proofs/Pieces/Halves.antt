-- A word halved as a signed one, again and again: a quotient truncated toward zero; and a product by a factor's bits.
use Rattle.std.proofs.Common.{◌≡◌, ℕ, zero, suc, ◌+◌, ◌-◌, ◌*◌, ◌/◌, ◌%◌, ◌^◌, ◌≤◌, ◌<◌, Bool, true, false, refl, sym, ap, ◌∙◌, subst, arith, ⊎_elim}
use Rattle.std.specs.Prelude.{if◌then◌else◌, nat_le, nat_lt}
use Rattle.std.proofs.lemmas.Bool.{cases_lt, lt-leb, le-leb}
use Rattle.tb_cpu.specs.Effects.{bit, has_bit}
use Rattle.tb_runtime16.proofs.Words.{one_odd, one_high, one_carry}
use Rattle.tb_words.specs.Words.{word, is_negative, magnitude, negated, with_sign, differ, quotient}

-- ---- halves
-- half of a word, its sign kept
abbrev pub halve : ℕ → ℕ
halve v = v / 2 + 32768 * bit (nat_le 32768 v)

abbrev pub halve_times : ℕ → ℕ → ℕ
halve_times zero v = v
halve_times (suc k) v = halve (halve_times k v)

-- half of a word is a word
pub halve_small : (v : ℕ) → v < 65536 → halve v < 65536
halve_small v h = by (nat_le 32768 v)
  where
    by : (t : Bool) → v / 2 + 32768 * bit t < 65536
    by true = omega (arith, h)
    by false = omega (arith, h)

-- half of a word by its bytes: the high byte
pub high_half : (v : ℕ) → v < 65536 → v / 256 / 2 + 128 * bit (nat_le 128 (v / 256)) ≡ halve v / 256
high_half v h = ⊎_elim
    (λ e. ap (λ t. v / 256 / 2 + 128 * bit t) (lt-leb 128 (v / 256) (omega (arith, e))) ∙ omega (arith, e) ∙ sym (ap (λ t. (v / 2 + 32768 * bit t) / 256) (lt-leb 32768 v e)))
    (λ e. ap (λ t. v / 256 / 2 + 128 * bit t) (le-leb 128 (v / 256) (omega (arith, e))) ∙ omega (arith, e, h) ∙ sym (ap (λ t. (v / 2 + 32768 * bit t) / 256) (le-leb 32768 v e)))
    (cases_lt v 32768)

-- half of a word by its bytes: the low byte
pub low_half : (v : ℕ) → v < 65536 → v % 256 / 2 + 128 * bit (has_bit (v / 256) 1) ≡ halve v % 256
low_half v h = let o = one_odd (v / 256) in ⊎_elim
    (λ e. omega (arith, o) ∙ sym (ap (λ t. (v / 2 + 32768 * bit t) % 256) (lt-leb 32768 v e)))
    (λ e. omega (arith, o) ∙ sym (ap (λ t. (v / 2 + 32768 * bit t) % 256) (le-leb 32768 v e)))
    (cases_lt v 32768)

-- below 32,768 it is the half
abbrev floor : ℕ → ℕ → ℕ
floor zero v = v
floor (suc k) v = floor k v / 2

halve_below : (v : ℕ) → v < 32768 → halve v ≡ v / 2
halve_below v h = ap (λ t. v / 2 + 32768 * bit t) (lt-leb 32768 v h) ∙ omega arith

below : (k v : ℕ) → v < 32768 → (halve_times k v ≡ floor k v) × (floor k v < 32768)
below zero v h = (refl, h)
below (suc k) v h =
    let p = below k v h in
    (halve_below (halve_times k v) (omega (arith, p.0, p.1)) ∙ ap (λ x. x / 2) p.0, omega (arith, p.1))

-- from there on it is the half and 32,768 more
abbrev sunk : ℕ → ℕ → ℕ
sunk zero v = v
sunk (suc k) v = sunk k v / 2 + 32768

halve_above : (v : ℕ) → 32768 ≤ v → halve v ≡ v / 2 + 32768
halve_above v h = ap (λ t. v / 2 + 32768 * bit t) (le-leb 32768 v h) ∙ omega arith

above : (k v : ℕ) → 32768 ≤ v → (halve_times k v ≡ sunk k v) × (32768 ≤ sunk k v)
above zero v h = (refl, h)
above (suc k) v h =
    let p = above k v h in
    (halve_above (halve_times k v) (omega (arith, p.0, p.1)) ∙ ap (λ x. x / 2 + 32768) p.0, omega arith)

-- what holds of 0 to 5 holds of each number below 6
below_six : (P : ℕ → Type 0) → P 0 → P 1 → P 2 → P 3 → P 4 → P 5 → (k : ℕ) → k < 6 → P k
below_six P a b c d e f zero h = a
below_six P a b c d e f (suc zero) h = b
below_six P a b c d e f (suc (suc zero)) h = c
below_six P a b c d e f (suc (suc (suc zero))) h = d
below_six P a b c d e f (suc (suc (suc (suc zero)))) h = e
below_six P a b c d e f (suc (suc (suc (suc (suc zero))))) h = f
below_six P a b c d e f (suc (suc (suc (suc (suc (suc k)))))) h = absurd (omega (arith, h))

floor_is : (k x : ℕ) → k < 6 → x < 32768 → floor (suc k) x ≡ word (x / 2 ^ (k + 1))
floor_is k x h lt = below_six (λ k. floor (suc k) x ≡ word (x / 2 ^ (k + 1))) (omega (arith, lt)) (omega (arith, lt)) (omega (arith, lt))
    (omega (arith, lt)) (omega (arith, lt)) (omega (arith, lt)) k h

sunk_is : (k x : ℕ) → k < 6 → 32768 ≤ x → x + (2 ^ (k + 1) - 1) < 65536 → sunk (suc k) (x + (2 ^ (k + 1) - 1)) ≡ negated (word ((65536 - x) / 2 ^ (k + 1)))
sunk_is k x h lo lt =
    below_six (λ k. x + (2 ^ (k + 1) - 1) < 65536 → sunk (suc k) (x + (2 ^ (k + 1) - 1)) ≡ negated (word ((65536 - x) / 2 ^ (k + 1))))
    (λ lt. omega (arith, lo, lt)) (λ lt. omega (arith, lo, lt)) (λ lt. omega (arith, lo, lt)) (λ lt. omega (arith, lo, lt)) (λ lt. omega (arith, lo, lt)) (λ lt. omega (arith, lo, lt)) k h lt

-- what is raised to 0 and above has the quotient 0
none_is : (k x : ℕ) → k < 6 → x < 65536 → 65536 ≤ x + (2 ^ (k + 1) - 1) → (word (x + (2 ^ (k + 1) - 1)) < 32768)
    × (floor (suc k) (word (x + (2 ^ (k + 1) - 1))) ≡ negated (word ((65536 - x) / 2 ^ (k + 1))))
none_is k x h lt le =
    below_six (λ k. 65536 ≤ x + (2 ^ (k + 1) - 1) → (word (x + (2 ^ (k + 1) - 1)) < 32768) × (floor (suc k) (word (x + (2 ^ (k + 1) - 1))) ≡ negated (word ((65536 - x) / 2 ^ (k + 1)))))
    (λ le. (omega (arith, lt, le), omega (arith, lt, le))) (λ le. (omega (arith, lt, le), omega (arith, lt, le))) (λ le. (omega (arith, lt, le), omega (arith, lt, le)))
    (λ le. (omega (arith, lt, le), omega (arith, lt, le))) (λ le. (omega (arith, lt, le), omega (arith, lt, le))) (λ le. (omega (arith, lt, le), omega (arith, lt, le))) k h le

-- the bounds of the powers of two from 2 to 256
pub power_size : (k : ℕ) → k < 8 → (1 ≤ 2 ^ (k + 1)) × (2 ^ (k + 1) < 257)
power_size zero h = (omega arith, omega arith)
power_size (suc zero) h = (omega arith, omega arith)
power_size (suc (suc zero)) h = (omega arith, omega arith)
power_size (suc (suc (suc zero))) h = (omega arith, omega arith)
power_size (suc (suc (suc (suc zero)))) h = (omega arith, omega arith)
power_size (suc (suc (suc (suc (suc zero))))) h = (omega arith, omega arith)
power_size (suc (suc (suc (suc (suc (suc zero)))))) h = (omega arith, omega arith)
power_size (suc (suc (suc (suc (suc (suc (suc zero))))))) h = (omega arith, omega arith)
power_size (suc (suc (suc (suc (suc (suc (suc (suc k)))))))) h = absurd (omega (arith, h))

-- a quotient with a divisor that is not negative
quotient_by : (x d : ℕ) → d < 32768 → (t : Bool) → is_negative x ≡ t → quotient x d ≡ with_sign t ((if t then 65536 - x else x) / d)
quotient_by x d h t e = (λ i. with_sign (differ (e i) (p i)) ((if e i then 65536 - x else x) / (if p i then 65536 - d else d))) ∙ same t
  where
    p : is_negative d ≡ false
    p = lt-leb 32768 d h

    same : (t : Bool) → with_sign (differ t false) ((if t then 65536 - x else x) / d) ≡ with_sign t ((if t then 65536 - x else x) / d)
    same true = refl
    same false = refl

-- 2^(k + 1) - 1 if a word is negative
abbrev pub more : ℕ → Bool → ℕ
more k true = 2 ^ (k + 1) - 1
more k false = 0

-- a word that is raised by this if it is negative, halved k + 1 times
pub halves_are : (k x : ℕ) → k < 6 → x < 65536 → halve_times (suc k) (word (x + more k (nat_le 32768 x))) ≡ quotient x (2 ^ (k + 1))
halves_are k x few small = ⊎_elim positive negative (cases_lt x 32768)
  where
    d : ℕ
    d = 2 ^ (k + 1)

    d_small : d < 32768
    d_small = let p = power_size k (omega (arith, few)) in omega (arith, p.1)

    positive : x < 32768 → halve_times (suc k) (word (x + more k (nat_le 32768 x))) ≡ quotient x (2 ^ (k + 1))
    positive lt =
        let same : word (x + 0) ≡ x = omega (arith, lt) in
        ap (λ t. halve_times (suc k) (word (x + more k t))) (lt-leb 32768 x lt) ∙ ap (halve_times (suc k)) same ∙ (below (suc k) x lt).0 ∙ floor_is k x few lt
        ∙ sym (quotient_by x d d_small false (lt-leb 32768 x lt))

    raised : ℕ
    raised = x + (2 ^ (k + 1) - 1)

    negative : 32768 ≤ x → halve_times (suc k) (word (x + more k (nat_le 32768 x))) ≡ quotient x (2 ^ (k + 1))
    negative le =
        ap (λ t. halve_times (suc k) (word (x + more k t))) (le-leb 32768 x le)
        ∙ ⊎_elim
        (λ lt. let same : word raised ≡ raised = omega (arith, lt) in ap (halve_times (suc k)) same ∙ (above (suc k) raised (omega (arith, le))).0 ∙ sunk_is k x few le lt)
        (λ over. let n = none_is k x few small over in (below (suc k) (word raised) n.0).0 ∙ n.1)
        (cases_lt raised 65536)
        ∙ sym (quotient_by x d d_small true (le-leb 32768 x le))

-- ---- over 128 and 256: the bytes of the quotient
-- by what the word is raised to if it is negative
quotient_128 : (x : ℕ) → x < 65536 → quotient x 128 ≡ word (x + more 6 (nat_le 32768 x)) / 128 + 65024 * (word (x + more 6 (nat_le 32768 x)) / 32768)
quotient_128 x small = ⊎_elim
    (λ lt. quotient_by x 128 (omega arith) false (lt-leb 32768 x lt) ∙ (let e : word (x / 128) ≡ word (x + 0) / 128 + 65024 * (word (x + 0) / 32768) = omega (arith, lt) in e)
    ∙ sym (ap (λ t. word (x + more 6 t) / 128 + 65024 * (word (x + more 6 t) / 32768)) (lt-leb 32768 x lt)))
    (λ le. quotient_by x 128 (omega arith) true (le-leb 32768 x le)
    ∙ (let e : negated (word ((65536 - x) / 128)) ≡ word (x + 127) / 128 + 65024 * (word (x + 127) / 32768) = omega (arith, le, small) in e)
    ∙ sym (ap (λ t. word (x + more 6 t) / 128 + 65024 * (word (x + more 6 t) / 32768)) (le-leb 32768 x le)))
    (cases_lt x 32768)

quotient_256 : (x : ℕ) → x < 65536 → quotient x 256 ≡ word (x + more 7 (nat_le 32768 x)) / 256 + 65280 * (word (x + more 7 (nat_le 32768 x)) / 32768)
quotient_256 x small = ⊎_elim
    (λ lt. quotient_by x 256 (omega arith) false (lt-leb 32768 x lt) ∙ (let e : word (x / 256) ≡ word (x + 0) / 256 + 65280 * (word (x + 0) / 32768) = omega (arith, lt) in e)
    ∙ sym (ap (λ t. word (x + more 7 t) / 256 + 65280 * (word (x + more 7 t) / 32768)) (lt-leb 32768 x lt)))
    (λ le. quotient_by x 256 (omega arith) true (le-leb 32768 x le)
    ∙ (let e : negated (word ((65536 - x) / 256)) ≡ word (x + 255) / 256 + 65280 * (word (x + 255) / 32768) = omega (arith, le, small) in e)
    ∙ sym (ap (λ t. word (x + more 7 t) / 256 + 65280 * (word (x + more 7 t) / 32768)) (le-leb 32768 x le)))
    (cases_lt x 32768)

-- the sign of a byte is its quotient by 128
sign_bit : (n : ℕ) → n < 256 → bit (nat_le 128 n) ≡ n / 128
sign_bit n h = ⊎_elim (λ e. ap bit (lt-leb 128 n e) ∙ omega arith) (λ e. ap bit (le-leb 128 n e) ∙ omega arith) (cases_lt n 128)

-- a word v shifted to the left: its upper byte, and what a set bit that fell out makes of 255
bytes_128 : (v q : ℕ) → v < 65536 → q ≡ v / 128 + 65024 * (v / 32768)
    → (2 * (v / 256) % 256 + bit (has_bit (v % 256) 128) ≡ q % 256) × (255 * bit (has_bit (v / 256) 128) ≡ q / 256)
bytes_128 v q h e =
    let low = one_high (v % 256) (omega arith) in let high = one_high (v / 256) (omega (arith, h)) in (omega (arith, h, e, low), omega (arith, h, e, high))

bytes_256 : (v q : ℕ) → v < 65536 → q ≡ v / 256 + 65280 * (v / 32768) → (v / 256 ≡ q % 256) × (255 * bit (nat_le 128 (v / 256)) ≡ q / 256)
bytes_256 v q h e = let sign = sign_bit (v / 256) (omega (arith, h)) in (omega (arith, h, e), omega (arith, h, e, sign))

-- the quotient's bytes, by the bytes of the raised word
abbrev pub Upper : ℕ → ℕ → Type 0
Upper v q = (2 * (v / 256) % 256 + bit (has_bit (v % 256) 128) ≡ q % 256) × (255 * bit (has_bit (v / 256) 128) ≡ q / 256)

pub over_128 : (k x : ℕ) → k ≡ 6 → x < 65536 → Upper (word (x + more k (nat_le 32768 x))) (quotient x (2 ^ (k + 1)))
over_128 k x e small =
    subst (λ k. Upper (word (x + more k (nat_le 32768 x))) (quotient x (2 ^ (k + 1)))) (sym e)
    (bytes_128 (word (x + more 6 (nat_le 32768 x))) (quotient x 128) (omega arith) (quotient_128 x small))

pub over_256 : (k x : ℕ) → k ≡ 7 → x < 65536 → (word (x + more k (nat_le 32768 x)) / 256 ≡ quotient x (2 ^ (k + 1)) % 256)
    × (255 * bit (nat_le 128 (word (x + more k (nat_le 32768 x)) / 256)) ≡ quotient x (2 ^ (k + 1)) / 256)
over_256 k x e small =
    subst (λ k. (word (x + more k (nat_le 32768 x)) / 256 ≡ quotient x (2 ^ (k + 1)) % 256) × (255 * bit (nat_le 128 (word (x + more k (nat_le 32768 x)) / 256)) ≡ quotient x (2 ^ (k + 1)) / 256)) (sym e)
    (bytes_256 (word (x + more 7 (nat_le 32768 x))) (quotient x 256) (omega arith) (quotient_256 x small))

-- a quotient is a word
pub quotient_small : (x d : ℕ) → quotient x d < 65536
quotient_small x d = by (differ (is_negative x) (is_negative d))
  where
    by : (t : Bool) → with_sign t (magnitude x / magnitude d) < 65536
    by true = omega arith
    by false = omega arith

-- ---- a word raised, by its two bytes
pub raised_low : (x n : ℕ) → (x % 256 + n) % 256 ≡ word (x + n) % 256
raised_low x n = omega arith

-- the high byte of a word that is raised
pub raised_high : (x n : ℕ) → x < 65536 → n < 256 → (x / 256 + bit (nat_lt 255 (x % 256 + n))) % 256 ≡ word (x + n) / 256
raised_high x n h k = let c = one_carry (x % 256 + n) (omega (arith, k)) in omega (arith, c, h, k)

-- the sign of a word is its high byte's
pub sign_is : (x : ℕ) → x < 65536 → nat_le 128 (x / 256) ≡ nat_le 32768 x
sign_is x h = ⊎_elim
    (λ e. lt-leb 128 (x / 256) (omega (arith, e)) ∙ sym (lt-leb 32768 x e))
    (λ e. le-leb 128 (x / 256) (omega (arith, e)) ∙ sym (le-leb 32768 x e))
    (cases_lt x 32768)

-- what is added to a negative word is a byte
pub more_small : (k : ℕ) (t : Bool) → k < 8 → more k t < 256
more_small k true h = let p = power_size k h in omega (arith, p.1)
more_small k false h = omega arith

-- ---- doubles
pub double_low : (v : ℕ) → 2 * (v % 256) % 256 ≡ word (2 * v) % 256
double_low v = omega arith

-- the high byte of a doubled word
pub double_high : (v : ℕ) → v < 65536 → 2 * (v / 256) % 256 + bit (has_bit (v % 256) 128) ≡ word (2 * v) / 256
double_high v h = let o = one_high (v % 256) (omega arith) in omega (arith, o, h)

-- the low byte of a sum
pub sum_low : (v x : ℕ) → (v % 256 + x % 256 + 0) % 256 ≡ word (v + x) % 256
sum_low v x = omega arith

-- the high byte of a sum
pub sum_high : (v x : ℕ) → v < 65536 → x < 65536 → (v / 256 + x / 256 + bit (nat_lt 255 (v % 256 + x % 256 + 0))) % 256 ≡ word (v + x) / 256
sum_high v x h k = let c = one_carry (v % 256 + x % 256 + 0) (omega arith) in omega (arith, c, h, k)

-- a product by half of a factor, and then by its lowest bit
even_product : (x h : ℕ) → x * (2 * h) ≡ 2 * (x * h)
even_product x h = grind arith

odd_product : (x h : ℕ) → x * (2 * h + 1) ≡ 2 * (x * h) + x
odd_product x h = grind arith

-- a product by an even factor is the doubled product by its half
pub by_even : (x factor : ℕ) → factor % 2 ≡ 0 → word (2 * word (x * (factor / 2))) ≡ word (x * factor)
by_even x factor e =
    let f : factor ≡ 2 * (factor / 2) = omega (arith, e) in
    let q = ap (λ n. x * n) f ∙ even_product x (factor / 2) in
    (let s : word (2 * word (x * (factor / 2))) ≡ word (2 * (x * (factor / 2))) = omega arith in s) ∙ ap word (sym q)

-- a product by an odd factor has the word added once more
pub by_odd : (x factor : ℕ) → factor % 2 ≡ 1 → word (word (2 * word (x * (factor / 2))) + x) ≡ word (x * factor)
by_odd x factor e =
    let f : factor ≡ 2 * (factor / 2) + 1 = omega (arith, e) in
    let q = ap (λ n. x * n) f ∙ odd_product x (factor / 2) in
    (let s : word (word (2 * word (x * (factor / 2))) + x) ≡ word (2 * (x * (factor / 2)) + x) = omega arith in s) ∙ ap word (sym q)
