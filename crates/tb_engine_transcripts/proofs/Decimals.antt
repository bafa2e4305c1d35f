-- Decimal text is read as its number, and has nothing but digits.
use Rattle.std.proofs.Common.{◌≡◌, ◌≢◌, ◌<◌, ◌≤◌, ◌+◌, ◌-◌, ◌*◌, ◌/◌, ◌%◌, ◌^◌, ◌∙◌, ℕ, zero, suc, true, List, [], ◌∷◌, ◌++◌, Some, get_or, refl, sym, ap, arith, append_assoc}
use Rattle.std.specs.Fmt.{decimal}
use Rattle.std.specs.List.{list_all}
use Rattle.std.specs.Prelude.{nat_le}
use Rattle.std.proofs.lemmas.Bool.{and_from, le-leb, ne_eqb}
use Rattle.std.proofs.lemmas.Fmt.{decimal_by_steps, decimal_digit, first_decimal}
use Rattle.std.proofs.lemmas.List.{append-nil}
use Rattle.std.proofs.lemmas.List.Folds.{list_all-append}
use Rattle.tb_engine_transcripts.specs.Marks.{is_digit, number, number_from}

-- ---- digits

-- one more digit
digit_step : (most begun n d : ℕ) (rest : List ℕ) → d < 10 → 10 * begun + d ≡ n → n ≤ most
    → number_from most begun ((48 + d) ∷ rest) ≡ number_from most n rest
digit_step most begun n d rest few is le =
    let low : nat_le 48 (48 + d) ≡ true = le-leb 48 (48 + d) (omega arith) in
    let high : nat_le (48 + d) 57 ≡ true = le-leb (48 + d) 57 (omega arith) in
    let value : 10 * begun + (48 + d - 48) ≡ n = omega (arith, is) in
    let within : nat_le n most ≡ true = le-leb n most le in
    rw (low, high, value, within) refl

-- a digit
digit_of : (d : ℕ) → d < 10 → is_digit (48 + d) ≡ true
digit_of d few =
    and_from (nat_le 48 (48 + d)) (nat_le (48 + d) 57) (le-leb 48 (48 + d) (omega arith)) (le-leb (48 + d) 57 (omega arith))

-- what is said of a number's decimal text, by the steps in which it grows
abbrev pub IsRead : ℕ → List ℕ → Type 0
IsRead n ds = ((most : ℕ) (rest : List ℕ) → n ≤ most → number_from most 0 (ds ++ rest) ≡ number_from most n rest) × (list_all is_digit ds ≡ true)

-- a number of one digit
one_digit : (n : ℕ) → n < 10 → IsRead n ((48 + n) ∷ [])
one_digit n few = (
  λ most rest le. digit_step most 0 n n rest few (omega arith) le,
  and_from (is_digit (48 + n)) true (digit_of n few) refl,
)

-- a number of more
more_digits : (n : ℕ) (ds : List ℕ) → 10 ≤ n → IsRead (n / 10) ds → IsRead n (ds ++ ((48 + n % 10) ∷ []))
more_digits n ds many read = (
  λ most rest le.
      ap (number_from most 0) (append_assoc ds ((48 + n % 10) ∷ []) rest)
      ∙ read.0 most ((48 + n % 10) ∷ rest) (omega arith)
      ∙ digit_step most (n / 10) n (n % 10) rest (omega arith) (omega arith) le,
  list_all-append is_digit ds ((48 + n % 10) ∷ [])
      ∙ and_from (list_all is_digit ds) (list_all is_digit ((48 + n % 10) ∷ [])) read.1
      (and_from (is_digit (48 + n % 10)) true (digit_of (n % 10) (omega arith)) refl),
)

-- each number's text
is_read : (n : ℕ) → n < 2 ^ 64 → IsRead n (decimal n)
is_read n small = decimal_by_steps IsRead one_digit more_digits n small

-- it has nothing but digits
pub all_digits : (n : ℕ) → n < 2 ^ 64 → list_all is_digit (decimal n) ≡ true
all_digits n small = (is_read n small).1

-- ---- numbers

-- digits that don't begin with 0 are read as they are
without_zero : (most : ℕ) (ds : List ℕ) → ds ≢ [] → get_or ds 0 0 ≢ 48 → number most ds ≡ number_from most 0 ds
without_zero most [] some first = absurd (some refl)
without_zero most (b ∷ []) some first = refl
without_zero most (b ∷ c ∷ ds) some first = rw (ne_eqb b 48 first) refl

-- a list with a first element that is not 0 is not empty
some_first : (ds : List ℕ) → 48 < get_or ds 0 0 → ds ≢ []
some_first [] lt e = absurd (omega arith)
some_first (d ∷ ds) lt e = cc

-- a number that is not 0 is read
read_number : (most n : ℕ) → n ≤ most → n < 2 ^ 64 → 0 < n → number most (decimal n) ≡ Some n
read_number most n le small some =
    let first = first_decimal n some small in
    without_zero most (decimal n) (some_first (decimal n) first) (λ e. omega (arith, first, e))
    ∙ ap (number_from most 0) (sym (append-nil (decimal n)))
    ∙ (is_read n small).0 most [] le

-- a number's text is read as the number
pub number_read : (most n : ℕ) → n ≤ most → n < 2 ^ 64 → number most (decimal n) ≡ Some n
number_read most zero le small = ap (number most) (decimal_digit 0 (omega arith)) ∙ digit_step most 0 0 0 [] (omega arith) (omega arith) le
number_read most (suc n) le small = read_number most (suc n) le small (omega arith)
