-- The grammar of expressions over squeezed text: no spaces outside texts and remarks, letters in upper case.
use Rattle.std.specs.Prelude.{All, ◌≡◌, ℕ, ◌+◌, ◌-◌, ◌*◌, ◌≤◌, List, [], ◌∷◌, ◌++◌, length, Option, Some, None, Bool, nat_le, ◌==◌, ◌&&◌, if◌then◌else◌, codes}
use Rattle.std.specs.Option.{option_or}
use Rattle.tb_basic_syntax.specs.declared.expressions.Operator.{Operator}
use Rattle.tb_basic_syntax.specs.declared.expressions.Operator.TheVariants.{Add, Subtract, Multiply, Divide}
use Rattle.tb_basic_syntax.specs.Source.{Expression, Number, Variable, Negate, Binary, Random}

-- the byte of a digit, 0 to 9
abbrev pub IsDigit : ℕ → Type 0
IsDigit b = (48 ≤ b) × (b ≤ 57)

-- the byte of a letter, A to Z
abbrev pub IsLetter : ℕ → Type 0
IsLetter b = (65 ≤ b) × (b ≤ 90)

-- whether a byte is from 0 to 9
abbrev pub is_digit : ℕ → Bool
is_digit b = nat_le 48 b && nat_le b 57

-- whether a byte is from A to Z
abbrev pub is_letter : ℕ → Bool
is_letter b = nat_le 65 b && nat_le b 90

-- the value of digits after a number that the digits before them spell
abbrev pub value_after : ℕ → List ℕ → ℕ
value_after n [] = n
value_after n (d ∷ digits) = value_after (10 * n + (d - 48)) digits

-- the word of a literal of any size: the largest word if the literal is larger
abbrev pub word_of : ℕ → ℕ
word_of n = if nat_le n 65535 then n else 65535

-- where a literal above 65,535 begins, as the count of bytes left there
abbrev pub large_at : ℕ → ℕ → Option ℕ
large_at n left = if nat_le n 65535 then None else Some left

-- the parts: an expression, a term of it, a factor of a term
pub data Part : Type 0 where
  Whole : Part
  Term : Part
  Factor : Part

-- the operators that join terms, and those that join factors
abbrev pub operator : Part → ℕ → Option Operator
operator Whole b = if b == 43 then Some Add else if b == 45 then Some Subtract else None
operator Term b = if b == 42 then Some Multiply else if b == 47 then Some Divide else None
operator Factor b = None

-- The text begins with a part that spells an expression, and the rest is left after it.
-- `large` is the place of the first literal above 65,535, if any: the first of two places.
pub data Reads : Part → List ℕ → Expression → Option ℕ → List ℕ → Type 0 where
  number : (text : List ℕ) (d : ℕ) (digits rest : List ℕ) → text ≡ d ∷ digits ++ rest → All IsDigit (d ∷ digits)
      → Reads Factor text (Number (word_of (value_after 0 (d ∷ digits)))) (large_at (value_after 0 (d ∷ digits)) (length text)) rest
  variable : (v : ℕ) (rest : List ℕ) → IsLetter v → Reads Factor (v ∷ rest) (Variable (v - 65)) None rest
  random : (text : List ℕ) (e : Expression) (large : Option ℕ) (rest : List ℕ) → Reads Whole text e large (41 ∷ rest)
      → Reads Factor (codes "RND(" ++ text) (Random e) large rest
  parentheses : (text : List ℕ) (e : Expression) (large : Option ℕ) (rest : List ℕ) → Reads Whole text e large (41 ∷ rest)
      → Reads Factor (40 ∷ text) e large rest
  factor : (text : List ℕ) (e : Expression) (large : Option ℕ) (rest : List ℕ) → Reads Factor text e large rest → Reads Term text e large rest
  product : (text : List ℕ) (a b : Expression) (la lb : Option ℕ) (sign : ℕ) (op : Operator) (middle rest : List ℕ)
      → Reads Term text a la (sign ∷ middle) → operator Term sign ≡ Some op → Reads Factor middle b lb rest → Reads Term text (Binary op a b) (option_or la lb) rest
  term : (text : List ℕ) (e : Expression) (large : Option ℕ) (rest : List ℕ) → Reads Term text e large rest → Reads Whole text e large rest
  plus : (text : List ℕ) (e : Expression) (large : Option ℕ) (rest : List ℕ) → Reads Term text e large rest → Reads Whole (43 ∷ text) e large rest
  minus : (text : List ℕ) (e : Expression) (large : Option ℕ) (rest : List ℕ) → Reads Term text e large rest → Reads Whole (45 ∷ text) (Negate e) large rest
  sum : (text : List ℕ) (a b : Expression) (la lb : Option ℕ) (sign : ℕ) (op : Operator) (middle rest : List ℕ)
      → Reads Whole text a la (sign ∷ middle) → operator Whole sign ≡ Some op → Reads Term middle b lb rest → Reads Whole text (Binary op a b) (option_or la lb) rest

-- no text is two expressions
abbrev pub ExpressionsAreUnique : Type 0
ExpressionsAreUnique = (text : List ℕ) (a b : Expression) (la lb : Option ℕ) → Reads Whole text a la [] → Reads Whole text b lb [] → (a ≡ b) × (la ≡ lb)
