-- The tokens of a line.
use Rattle.std.specs.Prelude.{ℕ, zero, suc, ◌+◌, ◌-◌, ◌*◌, ◌<◌, ◌≤◌, ◌&&◌, ◌||◌, Bool, false, not, Option, Some, None, option_and_then, Result, Ok, Err}
use Rattle.std.specs.Prelude.{List, [], ◌∷◌, length, drop, take, eqb, nat_lt, if◌then◌else◌}
use Rattle.tb_asm.specs.Names.{is_between}
use Rattle.tb_assembly_text.specs.declared.faults.Fault.{Fault}
use Rattle.tb_assembly_text.specs.declared.faults.FaultKind.{FaultKind}
use Rattle.tb_assembly_text.specs.declared.faults.FaultKind.TheVariants.{Stray, OpenText, Character, NoDigits, NumberTooLarge, NameTooLong}
use Rattle.tb_assembly_text.specs.declared.tokens.Sign.{Sign}
use Rattle.tb_assembly_text.specs.declared.tokens.Sign.TheVariants.{Plus, Minus, Star, Slash, And, Or, Xor, ShiftLeft, ShiftRight, Less, Greater, Left, Right, Comma, Colon, Equals, Hash}
use Rattle.tb_assembly_text.specs.declared.tokens.Lexeme.{Lexeme}
use Rattle.tb_assembly_text.specs.declared.tokens.Lexeme.TheVariants.{Word as WordLexeme, Number as NumberLexeme, Text as TextLexeme, Sign as SignLexeme}
use Rattle.tb_assembly_text.specs.declared.tokens.Token.{Token}
use Rattle.tb_assembly_text.specs.declared.tokens.Lead.{Lead as LeadCode}
use Rattle.tb_assembly_text.specs.declared.tokens.Lead.TheVariants.{Blank, Ending, Found, Bad}

-- a word or a text by its bytes, a number by its value, or a sign
pub data Lexed : Type 0 where
  word : List ℕ → Lexed
  number : ℕ → Lexed
  text : List ℕ → Lexed
  sign : Sign → Lexed

-- a token: the column where it begins, from 1, and what it is
abbrev pub Placed : Type 0
Placed = ℕ × Lexed

-- a lexeme of the code as contracts see it
abbrev pub lexed_of : Lexeme → Lexed
lexed_of (WordLexeme w) = word w.now
lexed_of (NumberLexeme n) = number n
lexed_of (TextLexeme t) = text t.now
lexed_of (SignLexeme s) = sign s

-- a token of the code as contracts see it
abbrev pub token_of : Token → Placed
token_of t = (t.column, lexed_of t.lexeme)

-- what is at the front of a text: a space, a comment or the end, a token of n bytes, or what is refused
pub data Lead : Type 0 where
  blank : Lead
  ending : Lead
  found : Lexed → ℕ → Lead
  refused : FaultKind → Lead

-- the code's answer as contracts see it
abbrev pub lead_of : LeadCode → Lead
lead_of Blank = blank
lead_of Ending = ending
lead_of (Found l n) = found (lexed_of l) n
lead_of (Bad k) = refused k

-- a token has one byte at least, and lies within a text of this length
abbrev pub Fits : Lead → ℕ → Type 0
Fits (found l n) size = (0 < n) × (n ≤ size)
Fits l size = Unit {0}

-- how many bytes at the front are of a kind
abbrev pub run : (ℕ → Bool) → List ℕ → ℕ
run p [] = 0
run p (b ∷ bs) = if p b then run p bs + 1 else 0

-- whether a byte is a letter, in either case
abbrev pub is_letter : ℕ → Bool
is_letter b = is_between 97 122 b || is_between 65 90 b

-- whether a byte is from 0 to 9
abbrev pub is_decimal : ℕ → Bool
is_decimal b = is_between 48 57 b

-- whether a word begins with a byte: a letter, a full stop, `@`, `_` or `!`
abbrev pub begins_word : ℕ → Bool
begins_word b = is_letter b || eqb b 46 || eqb b 64 || eqb b 95 || eqb b 33

-- whether a word goes on with a byte: a letter, a digit or `_`
abbrev pub is_name_byte : ℕ → Bool
is_name_byte b = is_letter b || is_decimal b || eqb b 95

-- the value of a hexadecimal digit in either case; 16 for any other byte
abbrev pub digit_of : ℕ → ℕ
digit_of b = if is_decimal b then b - 48 else if is_between 65 70 b then b - 55 else if is_between 97 102 b then b - 87 else 16

-- whether a byte is a digit in a base
abbrev pub is_digit_in : ℕ → ℕ → Bool
is_digit_in base b = nat_lt (digit_of b) base

-- a number with one more digit; None if it has more than 32 bits
abbrev pub with_digit : ℕ → ℕ → ℕ → Option ℕ
with_digit base v d = if nat_lt (v * base + d) 4294967296 then Some (v * base + d) else None

-- the value of digits after those of the value v
abbrev pub digits_in : ℕ → ℕ → List ℕ → Option ℕ
digits_in base v [] = Some v
digits_in base v (b ∷ bs) = option_and_then (λ n. digits_in base n bs) (with_digit base v (digit_of b))

-- whether a byte is none that ends a text
abbrev pub is_quoted : ℕ → Bool
is_quoted b = not (eqb b 34)

-- a word at the front
abbrev pub word_lead : List ℕ → Lead
word_lead t = let size = run is_name_byte (drop 1 t) + 1 in if nat_lt 255 size then refused NameTooLong else found (word (take size t)) size

-- a number by its value
abbrev pub number_lead : ℕ → Option ℕ → Lead
number_lead size None = refused NumberTooLarge
number_lead size (Some v) = found (number v) size

-- a number whose digits are at the front, after `before` other bytes
abbrev pub value_lead : ℕ → List ℕ → ℕ → Lead
value_lead base t before =
    let size = run (is_digit_in base) t in if eqb size 0 then refused NoDigits else number_lead (size + before) (digits_in base 0 (take size t))

-- a character with the mark after it
abbrev pub character_lead : List ℕ → Lead
character_lead [] = refused Character
character_lead (c ∷ []) = refused Character
character_lead (c ∷ b ∷ bs) = if eqb b 39 then found (number c) 3 else refused Character

-- a text with the mark after it
abbrev pub text_lead : List ℕ → Lead
text_lead t = let size = run is_quoted t in if eqb size (length t) then refused OpenText else found (text (take size t)) (size + 2)

-- whether a byte is at the front
abbrev pub begins_with : ℕ → List ℕ → Bool
begins_with w [] = false
begins_with w (b ∷ bs) = eqb b w

-- the sign of a byte alone, None for any other byte
abbrev pub sign_of : ℕ → Option Sign
sign_of b =
    if eqb b 43 then Some Plus else
    if eqb b 45 then Some Minus else
    if eqb b 42 then Some Star else
    if eqb b 47 then Some Slash else
    if eqb b 38 then Some And else
    if eqb b 124 then Some Or else
    if eqb b 94 then Some Xor else
    if eqb b 60 then Some Less else
    if eqb b 62 then Some Greater else
    if eqb b 40 then Some Left else
    if eqb b 41 then Some Right else
    if eqb b 44 then Some Comma else
    if eqb b 58 then Some Colon else
    if eqb b 61 then Some Equals else
    if eqb b 35 then Some Hash else None

-- a sign of one byte, None for a byte that is none
abbrev pub single_lead : Option Sign → Lead
single_lead None = refused Stray
single_lead (Some s) = found (sign s) 1

-- a sign by its byte and what follows it: `//` is a comment, `<<` and `>>` are signs of two bytes
abbrev pub sign_lead : ℕ → List ℕ → Lead
sign_lead b bs =
    if begins_with b bs && eqb b 47 then ending else
    if begins_with b bs && eqb b 60 then found (sign ShiftLeft) 2 else
    if begins_with b bs && eqb b 62 then found (sign ShiftRight) 2 else single_lead (sign_of b)

-- what is at the front of a text
abbrev pub first_lead : List ℕ → Lead
first_lead [] = ending
first_lead (b ∷ bs) =
    if eqb b 32 || eqb b 9 then blank else
    if eqb b 59 then ending else
    if eqb b 36 then value_lead 16 bs 1 else
    if eqb b 37 then value_lead 2 bs 1 else
    if eqb b 39 then character_lead bs else
    if eqb b 34 then text_lead bs else
    if is_decimal b then value_lead 10 (b ∷ bs) 0 else
    if begins_word b then word_lead (b ∷ bs) else sign_lead b bs

-- the tokens after one, unless these are refused
abbrev pub before : Placed → Result (List Placed) Fault → Result (List Placed) Fault
before t (Ok ts) = Ok (t ∷ ts)
before t (Err f) = Err f

-- what is read at a column where this is at the front; `on n` are the tokens of what follows n more bytes
abbrev pub read_lead : Lead → ℕ → (ℕ → Result (List Placed) Fault) → Result (List Placed) Fault
read_lead blank c on = on 0
read_lead ending c on = Ok []
read_lead (found l n) c on = before (c, l) (on (n - 1))
read_lead (refused k) c on = Err (record { column = c; kind = k })

-- the tokens of what is left of a line at a column, of which the first bytes belong to a token before, or the line's first fault
abbrev pub tokens_from : ℕ → ℕ → List ℕ → Result (List Placed) Fault
tokens_from inside c [] = Ok []
tokens_from zero c (b ∷ bs) = read_lead (first_lead (b ∷ bs)) c (λ n. tokens_from n (c + 1) bs)
tokens_from (suc inside) c (b ∷ bs) = tokens_from inside (c + 1) bs

-- the tokens of a line, or its first byte that begins none
abbrev pub tokens_of : List ℕ → Result (List Placed) Fault
tokens_of line = tokens_from 0 1 line
