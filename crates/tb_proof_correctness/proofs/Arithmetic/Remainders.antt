-- A word's quotient times the divisor is the word again if the remainder is 0, and how that is seen.
use Rattle.std.proofs.Common.{◌≡◌, ◌≢◌, ℕ, zero, suc, ◌+◌, ◌-◌, ◌*◌, ◌/◌, ◌%◌, ◌^◌, ◌≤◌, ◌<◌, Bool, true, false}
use Rattle.std.proofs.Common.{refl, sym, ap, ◌∙◌, arith, eqb, bit_and, ◌⊎◌, inl, inr, ⊎_elim, mul_comm}
use Rattle.std.specs.Prelude.{if◌then◌else◌, nat_eq, bit_or}
use Rattle.std.proofs.lemmas.Bool.{cases_eq, eq-eqb, ltb-true, ltb-false, ne_eqb}
use Rattle.std.proofs.lemmas.Grind.{and_numeral}
use Rattle.std.proofs.lemmas.Nat.{le_or_l, le_or_r}
use Rattle.std.proofs.Math.Nat.{div-le_self}
use Rattle.tb_words.specs.Words.{differ, is_negative, magnitude, negated, quotient, with_sign, word}

-- ---- products
sum_times : (u q b : ℕ) → (u + q) * b ≡ u * b + q * b
sum_times u q b = grind arith

times_sum : (u v b : ℕ) → u * (v + b) ≡ u * v + u * b
times_sum u v b = grind arith

none_times : (b : ℕ) → 0 * b ≡ 0
none_times b = grind arith

-- the rest of a number up to 65,536, times another one, and times the rest of that one
one_turned : (u q b : ℕ) → u + q ≡ 65536 → u * b + q * b ≡ 65536 * b
one_turned u q b e = sym (sum_times u q b) ∙ ap (λ n. n * b) e

two_turned : (u v b : ℕ) → v + b ≡ 65536 → u * v + u * b ≡ u * 65536
two_turned u v b e = sym (times_sum u v b) ∙ ap (λ n. u * n) e

-- ---- signs
-- a word that has a sign and a magnitude
abbrev HasSign : Bool → ℕ → ℕ → Type 0
HasSign true a x = (x + a ≡ 65536) × (1 ≤ a) × (a ≤ 32768)
HasSign false a x = (x ≡ a) × (a < 32768)

has_sign : (x : ℕ) → x < 65536 → (s : Bool) → is_negative x ≡ s → HasSign s (if s then 65536 - x else x) x
has_sign x h true e = (omega (arith, h), omega (arith, h), omega (arith, h, ltb-true 32767 x e))
has_sign x h false e = (refl, omega (arith, ltb-false 32767 x e))

-- a number with its sign turned
turned_is : (q : ℕ) → q ≤ 32768 → (negated (word q) + q ≡ 65536) ⊎ ((negated (word q) ≡ 0) × (q ≡ 0))
turned_is q few = ⊎_elim (λ z. inr (omega (arith, z), z)) (λ n. inl (omega (arith, n, few))) (cases_eq q 0)

-- a quotient times the divisor has the sign of the dividend
product_sign : (s t : Bool) (b q y : ℕ) → HasSign t b y → q ≤ 32768 → q * b ≤ 32768 → word (with_sign (differ s t) q * y) ≡ with_sign s (q * b)
product_sign false false b q y h few room =
    let e : word q ≡ q = omega (arith, few) in ap word ((λ i. e i * h.0 i))
product_sign true true b q y h few room =
    let e : word q ≡ q = omega (arith, few) in
    let d = two_turned q y b h.0 in
    ap (λ n. word (n * y)) e ∙ omega (arith, d, room)
product_sign true false b q y h few room = ⊎_elim
    (λ e. let d = one_turned (negated (word q)) q b e in ap (λ n. word (negated (word q) * n)) h.0 ∙ omega (arith, d, room))
    (λ z. let p : q * b ≡ 0 = ap (λ n. n * b) z.1 ∙ none_times b in ap (λ n. word (n * y)) z.0 ∙ ap word (none_times y) ∙ omega (arith, p))
    (turned_is q few)
product_sign false true b q y h few room = ⊎_elim
    (λ e. let d = one_turned (negated (word q)) q b e in let d' = two_turned (negated (word q)) y b h.0 in omega (arith, d, d', room))
    (λ z. let p : q * b ≡ 0 = ap (λ n. n * b) z.1 ∙ none_times b in ap (λ n. word (n * y)) z.0 ∙ ap word (none_times y) ∙ omega (arith, p))
    (turned_is q few)

-- both or none is 0
decide : (b r : ℕ) → (b ≡ 0 → r ≡ 0) → (r ≡ 0 → b ≡ 0) → eqb b 0 ≡ nat_eq r 0
decide b r on back = ⊎_elim (λ z. eq-eqb b 0 z ∙ sym (eq-eqb r 0 (on z))) (λ n. ne_eqb b 0 n ∙ sym (ne_eqb r 0 (λ z. n (back z)))) (cases_eq b 0)

-- a part with a sign is the whole with that sign if nothing else is left
part_is : (s : Bool) (a x p r : ℕ) → HasSign s a x → p + r ≡ a → nat_eq (with_sign s p) x ≡ nat_eq r 0
part_is true a x p r h e = ⊎_elim
    (λ z. eq-eqb _ _ (omega (arith, h.0, h.1, h.2, e, z)) ∙ sym (eq-eqb r 0 z))
    (λ n. ne_eqb _ _ (λ q. n (omega (arith, h.0, h.1, h.2, e, q))) ∙ sym (ne_eqb r 0 n))
    (cases_eq r 0)
part_is false a x p r h e = ⊎_elim
    (λ z. eq-eqb _ _ (omega (arith, h.0, h.1, e, z)) ∙ sym (eq-eqb r 0 z))
    (λ n. ne_eqb _ _ (λ q. n (omega (arith, h.0, h.1, e, q))) ∙ sym (ne_eqb r 0 n))
    (cases_eq r 0)

sign_bound : (s : Bool) (a x : ℕ) → HasSign s a x → a ≤ 32768
sign_bound true a x h = h.2
sign_bound false a x h = omega (arith, h.1)

some_size : (t : Bool) (b y : ℕ) → HasSign t b y → y ≢ 0 → 1 ≤ b
some_size true b y h n = h.1
some_size false b y h n = omega (arith, h.0, n)

-- a word's quotient times the divisor is the word's part that the divisor divides
record Product (s t : Bool) (a b x y : ℕ) : Type 0 where
  few : a ≤ 32768
  whole : a / b * b + a % b ≡ a
  is : word (with_sign (differ s t) (a / b) * y) ≡ with_sign s (a / b * b)

product_of : (s t : Bool) (a b x y : ℕ) → HasSign s a x → HasSign t b y → y ≢ 0 → Product s t a b x y
product_of s t a b x y hx hy some =
    let one = some_size t b y hy some in
    let few = sign_bound s a x hx in
    let whole : b * (a / b) + a % b ≡ a = omega (arith, one) in
    let same = mul_comm (a / b) b in
    let less = div-le_self a b in
    record { few = few; whole = omega (arith, whole, same); is = product_sign s t b (a / b) y hy (omega (arith, less, few)) (omega (arith, whole, same, few)) }

again : (s t : Bool) (a b x y : ℕ) → HasSign s a x → HasSign t b y → y ≢ 0 → nat_eq (word (with_sign (differ s t) (a / b) * y)) x ≡ nat_eq (a % b) 0
again s t a b x y hx hy some = let p = product_of s t a b x y hx hy some in ap (λ n. nat_eq n x) p.is ∙ part_is s a x (a / b * b) (a % b) hx p.whole

-- a word's quotient times the divisor is the word if the remainder is 0
pub multiple_is : (x y : ℕ) → x < 65536 → y < 65536 → y ≢ 0 → nat_eq (word (quotient x y * y)) x ≡ nat_eq (magnitude x % magnitude y) 0
multiple_is x y hx hy some = again (is_negative x) (is_negative y) (magnitude x) (magnitude y) x y (has_sign x hx (is_negative x) refl) (has_sign y hy (is_negative y) refl) some

-- ---- the word less that product
-- a size with a sign, turned by a subtraction from 0
abbrev pub turned_size : Bool → ℕ → ℕ
turned_size true r = word (0 + (65536 - r))
turned_size false r = r

less_part : (s : Bool) (a x p r : ℕ) → HasSign s a x → a ≤ 32768 → p + r ≡ a → word (x + (65536 - with_sign s p)) ≡ turned_size s r
less_part true a x p r h few e = ⊎_elim (λ z. omega (arith, h.0, h.1, few, e, z)) (λ n. omega (arith, h.0, h.1, few, e, n)) (cases_eq p 0)
less_part false a x p r h few e = omega (arith, h.0, few, e)

left_of : (s t : Bool) (a b x y : ℕ) → HasSign s a x → HasSign t b y → y ≢ 0 → word (x + (65536 - word (with_sign (differ s t) (a / b) * y))) ≡ turned_size s (a % b)
left_of s t a b x y hx hy some = let p = product_of s t a b x y hx hy some in ap (λ n. word (x + (65536 - n))) p.is ∙ less_part s a x (a / b * b) (a % b) hx p.few p.whole

-- a word less its quotient times the divisor is the size of the remainder with the word's sign
pub rest_is : (x y : ℕ) → x < 65536 → y < 65536 → y ≢ 0 → word (x + (65536 - word (quotient x y * y))) ≡ turned_size (is_negative x) (magnitude x % magnitude y)
rest_is x y hx hy some = left_of (is_negative x) (is_negative y) (magnitude x) (magnitude y) x y (has_sign x hx (is_negative x) refl) (has_sign y hy (is_negative y) refl) some

-- ---- how it is seen
-- both bytes of a word are 0 if it is 0
pub either_byte : (v : ℕ) → eqb (bit_or (v % 256) (v / 256)) 0 ≡ nat_eq v 0
either_byte v = decide (bit_or (v % 256) (v / 256)) v
    (λ z. omega (arith, z, le_or_l (v % 256) (v / 256), le_or_r (v % 256) (v / 256)))
    (λ z. ap (λ v. bit_or (v % 256) (v / 256)) z)

sizes : (x : ℕ) → x < 65536 → (magnitude x ≡ x) ⊎ (magnitude x + x ≡ 65536)
sizes x h = by (is_negative x)
  where
    by : (t : Bool) → ((if t then 65536 - x else x) ≡ x) ⊎ ((if t then 65536 - x else x) + x ≡ 65536)
    by true = inr (omega (arith, h))
    by false = inl refl

-- the lowest bits of a word tell whether it is a multiple of a power of two
bits_tell : (k : ℕ) → k < 8 → (x m : ℕ) → (m ≡ x) ⊎ (m + x ≡ 65536) → eqb (bit_and (x % 256) (2 ^ (k + 1) - 1)) 0 ≡ nat_eq (m % 2 ^ (k + 1)) 0
bits_tell zero few x m h = decide _ _ (λ z. ⊎_elim (λ e. omega (arith, e, z, and_numeral (x % 256) 0 refl))
    (λ e. omega (arith, e, z, and_numeral (x % 256) 0 refl)) h) (λ z. ⊎_elim (λ e. omega (arith, e, z, and_numeral (x % 256) 0 refl))
    (λ e. omega (arith, e, z, and_numeral (x % 256) 0 refl)) h)
bits_tell (suc zero) few x m h = decide _ _ (λ z. ⊎_elim (λ e. omega (arith, e, z, and_numeral (x % 256) 2 refl))
    (λ e. omega (arith, e, z, and_numeral (x % 256) 2 refl)) h) (λ z. ⊎_elim (λ e. omega (arith, e, z, and_numeral (x % 256) 2 refl))
    (λ e. omega (arith, e, z, and_numeral (x % 256) 2 refl)) h)
bits_tell (suc (suc zero)) few x m h = decide _ _ (λ z. ⊎_elim (λ e. omega (arith, e, z, and_numeral (x % 256) 6 refl))
    (λ e. omega (arith, e, z, and_numeral (x % 256) 6 refl)) h) (λ z. ⊎_elim (λ e. omega (arith, e, z, and_numeral (x % 256) 6 refl))
    (λ e. omega (arith, e, z, and_numeral (x % 256) 6 refl)) h)
bits_tell (suc (suc (suc zero))) few x m h = decide _ _ (λ z. ⊎_elim (λ e. omega (arith, e, z, and_numeral (x % 256) 14 refl))
    (λ e. omega (arith, e, z, and_numeral (x % 256) 14 refl)) h) (λ z. ⊎_elim (λ e. omega (arith, e, z, and_numeral (x % 256) 14 refl))
    (λ e. omega (arith, e, z, and_numeral (x % 256) 14 refl)) h)
bits_tell (suc (suc (suc (suc zero)))) few x m h = decide _ _ (λ z. ⊎_elim (λ e. omega (arith, e, z, and_numeral (x % 256) 30 refl))
    (λ e. omega (arith, e, z, and_numeral (x % 256) 30 refl)) h) (λ z. ⊎_elim (λ e. omega (arith, e, z, and_numeral (x % 256) 30 refl))
    (λ e. omega (arith, e, z, and_numeral (x % 256) 30 refl)) h)
bits_tell (suc (suc (suc (suc (suc zero))))) few x m h = decide _ _ (λ z. ⊎_elim (λ e. omega (arith, e, z, and_numeral (x % 256) 62 refl))
    (λ e. omega (arith, e, z, and_numeral (x % 256) 62 refl)) h) (λ z. ⊎_elim (λ e. omega (arith, e, z, and_numeral (x % 256) 62 refl))
    (λ e. omega (arith, e, z, and_numeral (x % 256) 62 refl)) h)
bits_tell (suc (suc (suc (suc (suc (suc zero)))))) few x m h = decide _ _ (λ z. ⊎_elim (λ e. omega (arith, e, z, and_numeral (x % 256) 126 refl))
    (λ e. omega (arith, e, z, and_numeral (x % 256) 126 refl)) h) (λ z. ⊎_elim (λ e. omega (arith, e, z, and_numeral (x % 256) 126 refl))
    (λ e. omega (arith, e, z, and_numeral (x % 256) 126 refl)) h)
bits_tell (suc (suc (suc (suc (suc (suc (suc zero))))))) few x m h =
    decide _ _ (λ z. ⊎_elim (λ e. omega (arith, e, z, and_numeral (x % 256) 254 refl)) (λ e. omega (arith, e, z, and_numeral (x % 256) 254 refl)) h)
    (λ z. ⊎_elim (λ e. omega (arith, e, z, and_numeral (x % 256) 254 refl)) (λ e. omega (arith, e, z, and_numeral (x % 256) 254 refl)) h)
bits_tell (suc (suc (suc (suc (suc (suc (suc (suc k)))))))) few x m h = absurd (omega (arith, few))

-- a mask is a byte
pub mask_small : (k : ℕ) → k < 8 → (2 ^ (k + 1) - 1) % 256 ≡ 2 ^ (k + 1) - 1
mask_small zero few = refl
mask_small (suc zero) few = refl
mask_small (suc (suc zero)) few = refl
mask_small (suc (suc (suc zero))) few = refl
mask_small (suc (suc (suc (suc zero)))) few = refl
mask_small (suc (suc (suc (suc (suc zero))))) few = refl
mask_small (suc (suc (suc (suc (suc (suc zero)))))) few = refl
mask_small (suc (suc (suc (suc (suc (suc (suc zero))))))) few = refl
mask_small (suc (suc (suc (suc (suc (suc (suc (suc k)))))))) few = absurd (omega (arith, few))

-- a power of two is not 0
pub some_power : (k : ℕ) → k < 8 → 2 ^ (k + 1) ≢ 0
some_power zero few = λ z. omega (arith, z)
some_power (suc zero) few = λ z. omega (arith, z)
some_power (suc (suc zero)) few = λ z. omega (arith, z)
some_power (suc (suc (suc zero))) few = λ z. omega (arith, z)
some_power (suc (suc (suc (suc zero)))) few = λ z. omega (arith, z)
some_power (suc (suc (suc (suc (suc zero))))) few = λ z. omega (arith, z)
some_power (suc (suc (suc (suc (suc (suc zero)))))) few = λ z. omega (arith, z)
some_power (suc (suc (suc (suc (suc (suc (suc zero))))))) few = λ z. omega (arith, z)
some_power (suc (suc (suc (suc (suc (suc (suc (suc k)))))))) few = absurd (omega (arith, few))

-- the lowest bits of a word are 0 exactly if the power of two divides it
pub lowest_bits_are : (k : ℕ) → k < 8 → (x : ℕ) → x < 65536 → eqb (bit_and (x % 256) (2 ^ (k + 1) - 1)) 0 ≡ nat_eq (magnitude x % magnitude (2 ^ (k + 1))) 0
lowest_bits_are zero few x h = bits_tell 0 few x (magnitude x) (sizes x h)
lowest_bits_are (suc zero) few x h = bits_tell 1 few x (magnitude x) (sizes x h)
lowest_bits_are (suc (suc zero)) few x h = bits_tell 2 few x (magnitude x) (sizes x h)
lowest_bits_are (suc (suc (suc zero))) few x h = bits_tell 3 few x (magnitude x) (sizes x h)
lowest_bits_are (suc (suc (suc (suc zero)))) few x h = bits_tell 4 few x (magnitude x) (sizes x h)
lowest_bits_are (suc (suc (suc (suc (suc zero))))) few x h = bits_tell 5 few x (magnitude x) (sizes x h)
lowest_bits_are (suc (suc (suc (suc (suc (suc zero)))))) few x h = bits_tell 6 few x (magnitude x) (sizes x h)
lowest_bits_are (suc (suc (suc (suc (suc (suc (suc zero))))))) few x h = bits_tell 7 few x (magnitude x) (sizes x h)
lowest_bits_are (suc (suc (suc (suc (suc (suc (suc (suc k)))))))) few x h = absurd (omega (arith, few))
