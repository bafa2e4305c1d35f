-- Ten times a word, and a digit.
use Rattle.std.proofs.Common.{◌≡◌, ℕ, ◌+◌, ◌*◌, ◌/◌, ◌%◌, ◌<◌, ap, ◌∙◌, arith, eqb}
use Rattle.std.specs.Prelude.{nat_lt}
use Rattle.tb_cpu.specs.Effects.{bit}
use Rattle.tb_runtime16.proofs.Words.{one_high, doubled, added}

abbrev pub high_twice : ℕ → ℕ → ℕ
high_twice l h = 2 * h % 256 + bit (eqb (l / 128 % 2) 1)

abbrev pub high_sum : ℕ → ℕ → ℕ → ℕ → ℕ
high_sum l h k j = (h + j + bit (nat_lt 255 (l + k + 0))) % 256

high_twice_small : (l h : ℕ) → l < 256 → high_twice l h < 256
high_twice_small l h p = omega (arith, one_high l p)

-- a word times five: doubled twice, and the word added
abbrev pub five_low : ℕ → ℕ
five_low l = (2 * (2 * l % 256) % 256 + l + 0) % 256

abbrev pub five_high : ℕ → ℕ → ℕ
five_high l h = high_sum (2 * (2 * l % 256) % 256) h l (high_twice (2 * l % 256) (high_twice l h))

-- a word times ten: times five, and doubled
abbrev pub ten_low : ℕ → ℕ
ten_low l = 2 * five_low l % 256

abbrev pub ten_high : ℕ → ℕ → ℕ
ten_high l h = high_twice (five_low l) (five_high l h)

-- the bytes of ten times a word
pub times_ten : (l h : ℕ) → l < 256 → h < 256 → (ten_low l < 256) × (ten_high l h < 256) × (ten_low l + 256 * ten_high l h ≡ 10 * (l + 256 * h) % 65536)
times_ten l h p q =
    let a = 2 * l % 256 in
    let a' = high_twice l h in
    let b = 2 * a % 256 in
    let b' = high_twice a a' in
    let s = five_low l in
    let s' = five_high l h in
    let t = ten_low l in
    let t' = ten_high l h in
    let la : a < 256 = omega arith in
    let la' : a' < 256 = high_twice_small l h p in
    let bs : b < 256 = omega arith in
    let bs' : b' < 256 = high_twice_small a a' la in
    let ss : s < 256 = omega arith in
    let ss' : s' < 256 = omega arith in
    let ts : t < 256 = omega arith in
    let ts' : t' < 256 = high_twice_small s s' ss in
    let e1 : a + 256 * a' ≡ 2 * (l + 256 * h) % 65536 = doubled l h p q in
    let e2 : b + 256 * b' ≡ 2 * (a + 256 * a') % 65536 = doubled a a' la la' in
    let e3 : s + 256 * s' ≡ (b + 256 * b' + (l + 256 * h)) % 65536 = added b h l b' bs q p bs' ∙ (let g : (b + 256 * h + (l + 256 * b')) % 65536 ≡ (b + 256 * b' + (l + 256 * h)) % 65536 = omega arith in g) in
    let e4 : t + 256 * t' ≡ 2 * (s + 256 * s') % 65536 = doubled s s' ss ss' in
    let w = l + 256 * h in
    let f2 : b + 256 * b' ≡ 4 * w % 65536 = e2 ∙ ap (λ x. 2 * x % 65536) e1 ∙ (let g : 2 * (2 * w % 65536) % 65536 ≡ 4 * w % 65536 = omega arith in g) in
    let f3 : s + 256 * s' ≡ 5 * w % 65536 = e3 ∙ ap (λ x. (x + w) % 65536) f2 ∙ (let g : (4 * w % 65536 + w) % 65536 ≡ 5 * w % 65536 = omega arith in g) in
    let f4 : t + 256 * t' ≡ 10 * w % 65536 = e4 ∙ ap (λ x. 2 * x % 65536) f3 ∙ (let g : 2 * (5 * w % 65536) % 65536 ≡ 10 * w % 65536 = omega arith in g) in
    (ts, ts', f4)
