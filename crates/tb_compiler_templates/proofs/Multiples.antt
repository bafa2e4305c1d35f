-- Remainders by a constant's multiples: which divisors they are for, and that their items are plain and few.
use Rattle.std.proofs.Common.{◌≡◌, ◌≢◌, ℕ, zero, suc, ◌+◌, ◌-◌, ◌*◌, ◌^◌, ◌<◌, ◌≤◌, ◌++◌, refl, ap, arith, subst, sym, ◌∙◌}
use Rattle.std.proofs.Common.{Bool, true, false, Option, Some, None}
use Rattle.std.specs.Prelude.{if◌then◌else◌, nat_lt, option_map}
use Rattle.std.proofs.lemmas.Bool.{and_parts, lt-ltb, ltb-true}
use Rattle.tb_opcodes.specs.declared.Mnemonic.{Mnemonic}
use Rattle.tb_opcodes.specs.declared.Mnemonic.TheVariants.{Adc, Bcc, Beq, Bne, Bpl, Clc, Cmp, Cpx, Eor, Lda, Ldx, Ldy, Sbc, Sta, Stx, Tax, Tay, Txa, Tya}
use Rattle.tb_assembly_settling.specs.Settled.{most}
use Rattle.tb_assembly_settling.proofs.Forms.{most_append}
use Rattle.tb_compiler_templates.specs.Sources.{Source, FixedWord, AtAddress}
use Rattle.tb_compiler_templates.specs.Masks.{both_stored}
use Rattle.tb_compiler_templates.specs.Reduced.{byte_round, doublings, doublings_of, is_between, negated, over, reduced_rest, round, rounds, size_of_word, with_sign, word_round}
use Rattle.tb_compiler_templates.proofs.Plain.{IsPlain, ArePlain, ◌▹◌, plain_append, implied, immediate, absolute, low_byte, high_byte}

-- ── numbers ──
-- twice a number times a power of two is the number times the next one
pub twice : (k n : ℕ) → 2 * k * 2 ^ n ≡ k * 2 ^ suc n
twice k n = let p : 2 ^ suc n ≡ 2 * 2 ^ n = omega arith in turn k (2 ^ n) ∙ ap (λ q. k * q) (sym p)
  where
    turn : (k p : ℕ) → 2 * k * p ≡ k * (2 * p)
    turn k p = grind arith

-- twice a number times 2 to the power n - 1 is the number times 2 to the power n, if n isn't 0
pub again : (n k : ℕ) → n ≢ 0 → 2 * k * 2 ^ (n - 1) ≡ k * 2 ^ n
again zero k h = absurd (h refl)
again (suc n) k h = let e : suc n - 1 ≡ n = omega arith in ap (λ j. 2 * k * 2 ^ j) e ∙ twice k n

-- a factor is no more than a product with some other factor
pub below_product : (x p b : ℕ) → 1 ≤ p → x * p < b → x < b
below_product x zero b some h = absurd (omega (arith, some))
below_product x (suc p) b some h = omega (arith, h)

-- a power of two is not 0
pub some_power : (n : ℕ) → 1 ≤ 2 ^ n
some_power zero = omega arith
some_power (suc n) = let h = some_power n in omega (arith, h)

-- twice a number is no more than its product with a power of two
pub doubled_below : (n k b : ℕ) → n ≢ 0 → k * 2 ^ n < b → 2 * k < b
doubled_below n k b some h = below_product (2 * k) (2 ^ (n - 1)) b (some_power (n - 1)) (subst (λ p. p < b) (sym (again n k some)) h)

-- a power that is known, six powers on
pub six_on : (k n : ℕ) → k * 2 ^ (n + 6) ≡ 64 * (k * 2 ^ n)
six_on k n =
    let e : n + 6 ≡ suc (suc (suc (suc (suc (suc n))))) = omega arith in
    let p : 2 ^ suc (suc (suc (suc (suc (suc n))))) ≡ 64 * 2 ^ n = omega arith in
    ap (λ j. k * 2 ^ j) e ∙ ap (λ q. k * q) p ∙ turn k (2 ^ n)
  where
    turn : (k p : ℕ) → k * (64 * p) ≡ 64 * (k * p)
    turn k p = grind arith

-- a divisor's multiples are words
pub six_more : (n k : ℕ) → k * 2 ^ n < 1024 → k * 2 ^ (n + 6) < 65536
six_more n k h = let e = six_on k n in omega (arith, e, h)

-- ── rounds ──
-- the last of some rounds
pub last_round : (n k : ℕ) → n ≢ 0 → rounds n k ≡ rounds (n - 1) (2 * k) ++ round k
last_round zero k h = absurd (h refl)
last_round (suc n) k h = let e : n ≡ suc n - 1 = omega arith in ap (λ j. rounds j (2 * k) ++ round k) e

-- ── plain items ──
-- a branch over some bytes is plain
pub over_plain : (m : Mnemonic) (n : ℕ) → IsPlain (over m n)
over_plain m n = record { form = refl; straight = refl; known = λ l. refl; rises = λ low high es h. h }

round_plain : (k : ℕ) → ArePlain (round k)
round_plain k = by (nat_lt k 128)
  where
    by : (t : Bool) → ArePlain (if t then byte_round k else word_round k)
    by true = (immediate Cmp k refl ▹ over_plain Bcc 2 ▹ immediate Sbc k refl ▹ tt)
    by false =
        (immediate Cpx _ refl ▹ over_plain Bcc 14 ▹ over_plain Bne 4 ▹ immediate Cmp _ refl ▹ over_plain Bcc 8 ▹ immediate Sbc _ refl ▹ implied Tay refl
        ▹ implied Txa refl ▹ immediate Sbc _ refl ▹ implied Tax refl ▹ implied Tya refl ▹ tt)

rounds_plain : (n k : ℕ) → ArePlain (rounds n k)
rounds_plain zero k = tt
rounds_plain (suc n) k = plain_append (rounds n (2 * k)) (round k) (rounds_plain n (2 * k)) (round_plain k)

negated_plain : ArePlain negated
negated_plain =
    (immediate Eor 255 refl ▹ implied Clc refl ▹ immediate Adc 1 refl ▹ implied Tay refl ▹ implied Txa refl ▹ immediate Eor 255 refl ▹ immediate Adc 0 refl
    ▹ implied Tax refl ▹ implied Tya refl ▹ tt)

sized_plain : (a : Source) → ArePlain (size_of_word a)
sized_plain a = (low_byte Lda a refl refl ▹ high_byte Ldx a refl refl ▹ over_plain Beq 123 ▹ over_plain Bpl 13 ▹ negated_plain)

signed_plain : (a : Source) (to : ℕ) → ArePlain (with_sign a to)
signed_plain a to =
    (high_byte Ldy a refl refl ▹ over_plain Bpl 13 ▹ plain_append negated (both_stored to) negated_plain (absolute Sta to refl ▹ absolute Stx (to + 1) refl ▹ tt))

-- the items of a remainder by a constant's multiples are plain
pub reduced_plain : (n d : ℕ) (a : Source) (to : ℕ) → ArePlain (reduced_rest n d a to)
reduced_plain n d a to =
    plain_append (size_of_word a) (rounds (n + 6) d ++ with_sign a to) (sized_plain a)
    (plain_append (rounds (n + 6) d) (with_sign a to) (rounds_plain (n + 6) d) (signed_plain a to))

-- ── divisors ──
-- a divisor that n doublings bring above 512 and not to 1,024, or any other
pub data IsReducing (b : Source) : Option (ℕ × ℕ) → Type 0 where
  by_multiples : (w n : ℕ) → b ≡ FixedWord w → n < 9 → 512 < w * 2 ^ n → w * 2 ^ n < 1024 → IsReducing b (Some (n, w))
  by_routine : IsReducing b None

-- the choice of a divisor's doublings is right
pub reducing_is : (b : Source) → IsReducing b (doublings b)
reducing_is (FixedWord w) = by (doublings_of w) (found w)
  where
    -- where a number of doublings is right
    Right : ℕ → Option ℕ → Type 0
    Right w None = Unit {0}
    Right w (Some n) = (n < 9) × (512 < w * 2 ^ n) × (w * 2 ^ n < 1024)

    one : (w low high n : ℕ) (o : Option ℕ) → (low < w → w < high → Right w (Some n)) → Right w o → Right w (if is_between low high w then Some n else o)
    one w low high n o here rest = go (is_between low high w) refl
      where
        go : (t : Bool) → is_between low high w ≡ t → Right w (if t then Some n else o)
        go true e = let p = and_parts (nat_lt low w) (nat_lt w high) e in here (ltb-true low w p.0) (ltb-true w high p.1)
        go false e = rest

    found : (w : ℕ) → Right w (doublings_of w)
    found w =
        one w 512 1024 0 _ (λ p q. (omega arith, omega (arith, p), omega (arith, q)))
        (one w 256 512 1 _ (λ p q. (omega arith, omega (arith, p), omega (arith, q)))
        (one w 128 256 2 _ (λ p q. (omega arith, omega (arith, p), omega (arith, q)))
        (one w 64 128 3 _ (λ p q. (omega arith, omega (arith, p), omega (arith, q)))
        (one w 32 64 4 _ (λ p q. (omega arith, omega (arith, p), omega (arith, q)))
        (one w 16 32 5 _ (λ p q. (omega arith, omega (arith, p), omega (arith, q)))
        (one w 8 16 6 _ (λ p q. (omega arith, omega (arith, p), omega (arith, q)))
        (one w 4 8 7 _ (λ p q. (omega arith, omega (arith, p), omega (arith, q)))
        (one w 2 4 8 _ (λ p q. (omega arith, omega (arith, p), omega (arith, q))) tt))))))))

    by : (o : Option ℕ) → Right w o → IsReducing (FixedWord w) (option_map (λ n. (n, w)) o)
    by None h = by_routine
    by (Some n) h = by_multiples w n refl h.0 h.1 h.2
reducing_is (AtAddress p) = by_routine

-- ── sizes ──
round_size : (k : ℕ) → most (round k) ≤ 18
round_size k = by (nat_lt k 128)
  where
    by : (t : Bool) → most (if t then byte_round k else word_round k) ≤ 18
    by true = omega arith
    by false = omega arith

byte_size : (k : ℕ) → k < 128 → most (round k) ≤ 6
byte_size k h = let e = ap (λ t. most (if t then byte_round k else word_round k)) (lt-ltb k 128 h) in omega (arith, e)

words_size : (n k : ℕ) → most (rounds n k) ≤ 18 * n
words_size zero k = omega arith
words_size (suc n) k = let e = most_append (rounds n (2 * k)) (round k) in let a = words_size n (2 * k) in let b = round_size k in omega (arith, e, a, b)

-- the last rounds are for bytes, if what they begin with is below 256
bytes_size : (b r m k : ℕ) → m ≡ b + r → k * 2 ^ b < 256 → most (rounds m k) ≤ 6 * b + 18 * r
bytes_size zero r m k same h = let a = words_size m k in omega (arith, a, same)
bytes_size (suc b) r m k same h =
    let some : m ≢ 0 = λ e. omega (arith, e, same) in
    let small : 2 * k * 2 ^ b < 256 = subst (λ p. p < 256) (sym (twice k b)) h in
    let low : k < 128 = let d = doubled_below (suc b) k 256 (λ e. omega (arith, e)) h in omega (arith, d) in
    let e = most_append (rounds (m - 1) (2 * k)) (round k) in
    let a = bytes_size b r (m - 1) (2 * k) (omega (arith, same)) small in
    let c = byte_size k low in
    let l = ap most (last_round m k some) in
    omega (arith, e, a, c, l)

-- so all rounds together take at most 180 bytes
rounds_size : (n d : ℕ) → n < 9 → d * 2 ^ n < 1024 → most (rounds (n + 6) d) ≤ 180
rounds_size zero d few h = let a = words_size 6 d in omega (arith, a)
rounds_size (suc zero) d few h = let a = words_size 7 d in omega (arith, a)
rounds_size (suc (suc b)) d few h =
    let four : d * 2 ^ suc (suc b) ≡ 4 * (d * 2 ^ b) = sym (twice d (suc b)) ∙ sym (twice (2 * d) b) ∙ (let e : 2 * (2 * d) * 2 ^ b ≡ 4 * (d * 2 ^ b) = grind arith in e) in
    let a = bytes_size b 8 (suc (suc b) + 6) d (omega arith) (omega (arith, h, four)) in
    omega (arith, a, few)

-- a remainder by a constant's multiples takes at most 227 bytes
pub reduced_size : (n d : ℕ) (a : Source) (to : ℕ) → n < 9 → d * 2 ^ n < 1024 → most (reduced_rest n d a to) ≤ 227
reduced_size n d a to few h =
    let e = most_append (size_of_word a) (rounds (n + 6) d ++ with_sign a to) in
    let f = most_append (rounds (n + 6) d) (with_sign a to) in
    let r = rounds_size n d few h in
    by a e f r
  where
    by : (a : Source) → most (reduced_rest n d a to) ≡ most (size_of_word a) + most (rounds (n + 6) d ++ with_sign a to)
        → most (rounds (n + 6) d ++ with_sign a to) ≡ most (rounds (n + 6) d) + most (with_sign a to) → most (rounds (n + 6) d) ≤ 180 → most (reduced_rest n d a to) ≤ 227
    by (FixedWord w) e f r = omega (arith, e, f, r)
    by (AtAddress p) e f r = omega (arith, e, f, r)
