-- A number for each label, and lists of items whose labels rise.
use Rattle.std.proofs.Common.{◌≡◌, ℕ, ◌+◌, ◌-◌, ◌*◌, ◌/◌, ◌%◌, ◌<◌, ◌≤◌, Bool, List, [], ◌∷◌, ◌++◌, refl, arith, slice_index, nat_lt}
use Rattle.std.specs.Prelude.{if◌then◌else◌}
use Rattle.tb_words.specs.Hexadecimal.{hex_digit}
use Rattle.tb_asm.specs.declared.names.Name.{Name}
use Rattle.tb_asm.specs.Layout.{Entry, instr, label, bytes, word}
use Rattle.tb_compiler_templates.specs.declared.labels.Inner.{Inner}
use Rattle.tb_compiler_templates.specs.declared.labels.Target.TheVariants.{Line, Inside, Polled}
use Rattle.tb_compiler_templates.specs.Labels.{label_of, letter_of}

-- ── a number for each label ──
abbrev digit_value : ℕ → ℕ
digit_value d = if nat_lt d 58 then d - 48 else d - 55

abbrev word_value : List ℕ → ℕ → ℕ
word_value l p = 4096 * digit_value (slice_index l p) + 256 * digit_value (slice_index l (p + 1)) + 16 * digit_value (slice_index l (p + 2)) + digit_value (slice_index l (p + 3))

abbrev pub key : List ℕ → ℕ
key l = ((slice_index l 0 * 65536 + word_value l 1) * 65536 + word_value l 5) * 256 + slice_index l 9

-- the numbers of the labels of group i of line n begin here
abbrev pub base : ℕ → ℕ → ℕ
base n i = ((76 * 65536 + n) * 65536 + i) * 256

digit_back : (d : ℕ) → d < 16 → digit_value (hex_digit d) ≡ d
digit_back d h = by (nat_lt d 10) refl
  where
    by : (t : Bool) → nat_lt d 10 ≡ t → digit_value (hex_digit d) ≡ d
    by t e = grind (arith)

word_back : (n : ℕ) → n < 65536 → 4096 * digit_value (hex_digit (n / 4096)) + 256 * digit_value (hex_digit (n / 256 % 16)) + 16 * digit_value
    (hex_digit (n / 16 % 16)) + digit_value (hex_digit (n % 16)) ≡ n
word_back n h =
    let a = digit_back (n / 4096) (omega (arith, h)) in
    let b = digit_back (n / 256 % 16) (omega arith) in
    let c = digit_back (n / 16 % 16) (omega arith) in
    let d = digit_back (n % 16) (omega arith) in
    omega (arith, a, b, c, d, h)

-- the number of a line's label
pub line_key : (n : ℕ) → n < 65536 → key (label_of (Line n)).letters.items ≡ base n 0
line_key n h = let e = word_back n h in omega (arith, e)

-- the number of a label inside a group
pub inside_key : (inner : Inner) (n i : ℕ) → n < 65536 → i < 65536 → key (label_of (Inside inner n i)).letters.items ≡ base n i + letter_of inner
inside_key inner n i h k = let e = word_back n h in let f = word_back i k in omega (arith, e, f)

-- the number of the label that line n's poll branches to, below those of all other labels
abbrev pub polled_base : ℕ → ℕ
polled_base n = (66 * 65536 + n) * 65536 * 256

-- the number of a label that a poll branches to
pub polled_key : (n : ℕ) → n < 65536 → key (label_of (Polled n)).letters.items ≡ polled_base n
polled_key n h = let e = word_back n h in omega (arith, e)

abbrev pub key_of : Name → ℕ
key_of n = key n.letters.items

-- ── rising labels ──
-- the labels of a list have rising numbers from one number up to below another
abbrev pub Rising : ℕ → List Entry → ℕ → Type 0
Rising low [] high = low ≤ high
Rising low (instr n m o ∷ es) high = Rising low es high
Rising low (label n ∷ es) high = (low ≤ key_of n) × Rising (key_of n + 1) es high
Rising low (bytes bs ∷ es) high = Rising low es high
Rising low (word o ∷ es) high = Rising low es high

-- labels that rise from one number rise from any lower one
pub rising_lower : (low low' high : ℕ) (es : List Entry) → low ≤ low' → Rising low' es high → Rising low es high
rising_lower low low' high [] l h = omega (arith, l, h)
rising_lower low low' high (instr n m o ∷ es) l h = rising_lower low low' high es l h
rising_lower low low' high (label n ∷ es) l h = (omega (arith, l, h.0), h.1)
rising_lower low low' high (bytes bs ∷ es) l h = rising_lower low low' high es l h
rising_lower low low' high (word o ∷ es) l h = rising_lower low low' high es l h

-- rising labels before rising labels rise
pub rising_append : (low middle high : ℕ) (xs ys : List Entry) → Rising low xs middle → Rising middle ys high → Rising low (xs ++ ys) high
rising_append low middle high [] ys h k = rising_lower low middle high ys h k
rising_append low middle high (instr n m o ∷ xs) ys h k = rising_append low middle high xs ys h k
rising_append low middle high (label n ∷ xs) ys h k = (h.0, rising_append (key_of n + 1) middle high xs ys h.1 k)
rising_append low middle high (bytes bs ∷ xs) ys h k = rising_append low middle high xs ys h k
rising_append low middle high (word o ∷ xs) ys h k = rising_append low middle high xs ys h k
