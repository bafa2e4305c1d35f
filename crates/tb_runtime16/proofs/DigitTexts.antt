-- The digits of a number: of one below 1,000 by its hundreds, tens and ones, of a larger one by its quotient by 100.
use Rattle.std.proofs.Common.{◌≡◌, ℕ, suc, ◌+◌, ◌/◌, ◌%◌, ◌<◌, ◌≤◌, if◌then◌else◌, List, [], ◌∷◌, ◌++◌}
use Rattle.std.proofs.Common.{refl, sym, ap, ap₂, ◌∙◌, ⊎_elim, arith}
use Rattle.std.specs.Prelude.{bit_or}
use Rattle.std.proofs.lemmas.Bool.{cases_lt, le-leb, lt-leb}
use Rattle.std.proofs.lemmas.Nat.{or_comm, or_shifted}
use Rattle.tb_words.specs.Words.{digits_before}

-- a digit's text
pub digit_alone : (d : ℕ) → d < 10 → bit_or d 48 ≡ 48 + d
digit_alone d h = or_comm d 48 ∙ or_shifted 3 4 d (let s : d < 16 = omega (arith, h) in s)

-- the two digits of a number below 100
abbrev pub two_digits : ℕ → List ℕ
two_digits w = (48 + w / 10) ∷ (48 + w % 10) ∷ []

-- the three digits of a number below 1,000
abbrev pub three_digits : ℕ → List ℕ
three_digits w = (48 + w / 100) ∷ two_digits (w % 100)

-- ---- the digits from the lowest on
less_ten : (k w : ℕ) (ds : List ℕ) → w < 10 → digits_before (suc k) w ds ≡ (48 + w) ∷ ds
less_ten k w ds h = ap (λ b. if b then (48 + w) ∷ ds else digits_before k (w / 10) ((48 + w % 10) ∷ ds)) (le-leb (suc w) 10 h)

ten_more : (k w : ℕ) (ds : List ℕ) → 10 ≤ w → digits_before (suc k) w ds ≡ digits_before k (w / 10) ((48 + w % 10) ∷ ds)
ten_more k w ds h = ap (λ b. if b then (48 + w) ∷ ds else digits_before k (w / 10) ((48 + w % 10) ∷ ds)) (lt-leb (suc w) 10 (omega (arith, h)))

cons : (a b : ℕ) (ds es : List ℕ) → a ≡ b → ds ≡ es → a ∷ ds ≡ b ∷ es
cons a b ds es e h = ap₂ (λ a ds. a ∷ ds) e h

two : (k w : ℕ) (ds : List ℕ) → 10 ≤ w → w < 100 → digits_before (suc (suc k)) w ds ≡ two_digits w ++ ds
two k w ds from to = ten_more (suc k) w ds from ∙ less_ten k (w / 10) ((48 + w % 10) ∷ ds) (omega (arith, to))

three : (k w : ℕ) (ds : List ℕ) → 100 ≤ w → w < 1000 → digits_before (suc (suc (suc k))) w ds ≡ three_digits w ++ ds
three k w ds from to = ten_more (suc (suc k)) w ds (omega (arith, from)) ∙ two k (w / 10) ((48 + w % 10) ∷ ds) (omega (arith, from)) (omega (arith, to))
    ∙ cons _ _ _ _ (let e : 48 + w / 10 / 10 ≡ 48 + w / 100 = omega arith in e) (cons _ _ _ _ (let e : 48 + w / 10 % 10 ≡ 48 + w % 100 / 10 = omega arith in e)
    (cons _ _ _ _ (let e : 48 + w % 10 ≡ 48 + w % 100 % 10 = omega arith in e) refl))

-- ---- by the size of the number
-- a number below 10
pub of_one : (w : ℕ) → w < 10 → (48 + w) ∷ [] ≡ digits_before 5 w []
of_one w h = sym (less_ten 4 w [] h)

-- a number from 10 to 99
pub of_two : (w : ℕ) → 10 ≤ w → w < 100 → two_digits w ≡ digits_before 5 w []
of_two w from to = sym (two 3 w [] from to)

-- a number from 100 to 999
pub of_three : (w : ℕ) → 100 ≤ w → w < 1000 → three_digits w ≡ digits_before 5 w []
of_three w from to = sym (three 2 w [] from to)

-- three steps are enough for a number below 1,000, whatever comes after it
before_others : (q : ℕ) (ds : List ℕ) → q < 1000 → digits_before 3 q ds ≡ digits_before 5 q [] ++ ds
before_others q ds h =
    ⊎_elim
    (λ one. less_ten 2 q ds one ∙ ap (λ l. l ++ ds) (of_one q one))
    (λ more. ⊎_elim (λ tens. two 1 q ds more tens ∙ ap (λ l. l ++ ds) (of_two q more tens))
    (λ many. three 0 q ds many h ∙ ap (λ l. l ++ ds) (of_three q many h)) (cases_lt q 100))
    (cases_lt q 10)

-- the digits of the quotient by 100, and then two of the rest
pub by_hundred : (w : ℕ) → 100 ≤ w → w < 100000 → digits_before 5 (w / 100) [] ++ two_digits (w % 100) ≡ digits_before 5 w []
by_hundred w from to =
    let rest = (48 + w / 10 % 10) ∷ (48 + w % 10) ∷ [] in
    let q : w / 10 / 10 ≡ w / 100 = omega arith in
    sym (ten_more 4 w [] (omega (arith, from)) ∙ ten_more 3 (w / 10) ((48 + w % 10) ∷ []) (omega (arith, from)) ∙ ap (λ q. digits_before 3 q rest) q
    ∙ before_others (w / 100) rest (omega (arith, to))
    ∙ ap (λ l. digits_before 5 (w / 100) [] ++ l) (cons _ _ _ _ (let e : 48 + w / 10 % 10 ≡ 48 + w % 100 / 10 = omega arith in e)
    (cons _ _ _ _ (let e : 48 + w % 10 ≡ 48 + w % 100 % 10 = omega arith in e) refl)))
