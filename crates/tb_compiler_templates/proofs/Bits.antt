-- The bits of a factor below its highest one are as many as it has, however many are asked for; and those that rounding adds.
use Rattle.std.proofs.Common.{◌≡◌, ℕ, zero, suc, ◌+◌, ◌-◌, ◌*◌, ◌/◌, ◌%◌, ◌^◌, ◌<◌, ◌≤◌, Bool, true, false, refl, ap, arith}
use Rattle.std.specs.Prelude.{if◌then◌else◌, nat_eq, nat_lt}
use Rattle.std.proofs.lemmas.Bool.{lt-ltb}
use Rattle.tb_compiler_templates.specs.Scaled.{all_but_lowest, bits_size}
use Rattle.tb_words.proofs.Powers.{pow2}

one_size : (k factor : ℕ) → factor < 2 → bits_size (suc k) factor ≡ 0
one_size k factor h = ap (λ t. if t then 0 else bits_size k (factor / 2) + (if nat_eq (factor % 2) 1 then 16 else 3)) (lt-ltb factor 2 h)

size_same : (k factor : ℕ) → factor < pow2 (suc k) → bits_size (suc k) factor ≡ bits_size k factor
size_same zero factor h = one_size 0 factor (omega (arith, h))
size_same (suc k) factor h =
    let half : factor / 2 < pow2 (suc k) = omega (arith, h) in
    ap (λ n. if nat_lt factor 2 then 0 else n + (if nat_eq (factor % 2) 1 then 16 else 3)) (size_same k (factor / 2) half)

-- the bits of half a factor fit in one bit less
pub half_size : (factor : ℕ) → factor < 65536 → bits_size 15 (factor / 2) ≡ bits_size 14 (factor / 2)
half_size factor h = let e : pow2 15 ≡ 32768 = refl in size_same 14 (factor / 2) (omega (arith, h, e))

size_few : (k factor : ℕ) → bits_size k factor ≤ 16 * k
size_few zero factor = omega arith
size_few (suc k) factor = by (size_few k (factor / 2)) (nat_lt factor 2) (nat_eq (factor % 2) 1)
  where
    by : bits_size k (factor / 2) ≤ 16 * k → (t odd : Bool) → (if t then 0 else bits_size k (factor / 2) + (if odd then 16 else 3)) ≤ 16 * suc k
    by h true odd = omega arith
    by h false true = omega (arith, h)
    by h false false = omega (arith, h)

-- the bits of a factor take few bytes, so that their number is a word
pub few_bytes : (factor : ℕ) → bits_size 15 factor ≤ 240
few_bytes factor = size_few 15 factor

-- twice what is below a power of two from 1 to 128 is the next power but for its lowest two
pub lowest_taken : (k : ℕ) → k < 8 → 2 * (2 ^ k - 1) ≡ all_but_lowest k
lowest_taken zero h = refl
lowest_taken (suc zero) h = refl
lowest_taken (suc (suc zero)) h = refl
lowest_taken (suc (suc (suc zero))) h = refl
lowest_taken (suc (suc (suc (suc zero)))) h = refl
lowest_taken (suc (suc (suc (suc (suc zero))))) h = refl
lowest_taken (suc (suc (suc (suc (suc (suc zero)))))) h = refl
lowest_taken (suc (suc (suc (suc (suc (suc (suc zero))))))) h = refl
lowest_taken (suc (suc (suc (suc (suc (suc (suc (suc k)))))))) h = absurd (omega (arith, h))
