-- The column after a text, modulo 256.
use Rattle.std.proofs.Common.{◌≡◌, ◌≢◌, ℕ, zero, suc, ◌+◌, ◌/◌, ◌%◌, Bool, true, false, List, [], ◌∷◌, ◌++◌, length, refl, sym, ap, ◌∙◌, arith, eqb}
use Rattle.std.specs.Prelude.{nat_lt, if◌then◌else◌}
use Rattle.std.proofs.lemmas.Bool.{ne_eqb}
use Rattle.tb_words.specs.Words.{is_negative, magnitude, digits_before, digits_of}
use Rattle.tb_basic_meaning.specs.Control.{column_after}
use Rattle.tb_compiled_kept.specs.Addresses.{COLUMN}
use Rattle.tb_runtime16.specs.Laws.{Sent}

-- the column after a text, modulo 256, depends on the column before it modulo 256
pub column_same : (c d : ℕ) (bs : List ℕ) → c % 256 ≡ d % 256 → column_after c bs % 256 ≡ column_after d bs % 256
column_same c d [] e = e
column_same c d (b ∷ bs) e = go (column_same (c + 1) (d + 1) bs (omega arith)) (eqb b 13)
  where
    go : column_after (c + 1) bs % 256 ≡ column_after (d + 1) bs % 256 → (t : Bool) → column_after (if t then 0 else c + 1) bs % 256 ≡ column_after (if t then 0 else d + 1) bs % 256
    go r true = refl
    go r false = r

-- the column after two texts is the column after the second one, from that after the first one
pub column_append : (c : ℕ) (bs cs : List ℕ) → column_after c (bs ++ cs) ≡ column_after (column_after c bs) cs
column_append c [] cs = refl
column_append c (b ∷ bs) cs = column_append (if eqb b 13 then 0 else c + 1) bs cs

-- one text, and then another
pub sent_then : (changes : ℕ → Bool) (m0 m w : ℕ → ℕ) (t u : List ℕ) → Sent changes m0 t m → Sent changes m u w → Sent changes m0 (t ++ u) w
sent_then changes m0 m w t u h k = record {
  column = k.column ∙ column_same (m COLUMN) (column_after (m0 COLUMN) t) u (omega (arith, h.column)) ∙ ap (λ c. c % 256) (sym (column_append (m0 COLUMN) t u));
  others = λ a s n. k.others a s n ∙ h.others a s n;
}

-- ---- no digit is a return
abbrev Plain : List ℕ → Type 0
Plain [] = Unit {0}
Plain (b ∷ bs) = (b ≢ 13) × Plain bs

plain_column : (c : ℕ) (bs : List ℕ) → Plain bs → column_after c bs ≡ c + length bs
plain_column c [] h = omega arith
plain_column c (b ∷ bs) h = ap (λ t. column_after (if t then 0 else c + 1) bs) (ne_eqb b 13 h.0) ∙ plain_column (c + 1) bs h.1 ∙ omega arith

plain_either : (t : Bool) (a b : List ℕ) → Plain a → Plain b → Plain (if t then a else b)
plain_either true a b p q = p
plain_either false a b p q = q

plain_digits : (k n : ℕ) (text : List ℕ) → Plain text → Plain (digits_before k n text)
plain_digits zero n text h = h
plain_digits (suc k) n text h = plain_either (nat_lt n 10) ((48 + n) ∷ text) (digits_before k (n / 10) ((48 + n % 10) ∷ text)) ((λ e. omega arith), h)
    (plain_digits k (n / 10) ((48 + n % 10) ∷ text) ((λ e. omega arith), h))

plain_number : (w : ℕ) → Plain (digits_of w)
plain_number w = plain_either (is_negative w) (45 ∷ digits_before 5 (magnitude w) []) (digits_before 5 w []) ((λ e. omega arith), plain_digits 5 (magnitude w) [] tt) (plain_digits 5 w [] tt)

-- after a number's digits the column is as much further as it has digits
pub number_column : (c w : ℕ) → (c + length (digits_of w)) % 256 ≡ column_after c (digits_of w) % 256
number_column c w = ap (λ n. n % 256) (sym (plain_column c (digits_of w) (plain_number w)))
