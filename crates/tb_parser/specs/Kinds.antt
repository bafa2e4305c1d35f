-- Of which kind a token is, and where it ends.
use Rattle.std.specs.Prelude.{◌≡◌, ◌≢◌, ℕ, ◌+◌, ◌-◌, ◌<◌, ◌≤◌, ◌⊎◌, List, [], ◌∷◌, length, slice_index, Bool, true, false, ◌==◌, ◌&&◌, ◌||◌, if◌then◌else◌, codes}
use Rattle.tb_basic_grammar.specs.Grammar.{IsDigit, is_digit, is_letter}
use Rattle.tb_basic_grammar.specs.StatementReading.{spelled}
use Rattle.tb_basic_grammar.specs.declared.keywords.Keyword.{Keyword}
use Rattle.tb_basic_grammar.specs.declared.keywords.Keyword.TheVariants as keyword
use Rattle.tb_parser.specs.declared.lexer.Awaits.{Awaits}
use Rattle.tb_parser.specs.declared.lexer.Awaits.TheVariants.{Operand, Word, Remark}
use Rattle.tb_parser.specs.declared.lexer.TokenKind.{TokenKind}
use Rattle.tb_parser.specs.declared.lexer.TokenKind.TheVariants as kind
use Rattle.tb_parser.specs.Squeezed.{upper}

-- what comes after a token: behind REM its remark, behind these an operand, else a word
abbrev pub awaited : TokenKind → Awaits
awaited kind.Operator = Operand
awaited kind.Relation = Operand
awaited kind.Open = Operand
awaited kind.Comma = Operand
awaited kind.Semicolon = Operand
awaited (kind.Keyword keyword.Let) = Operand
awaited (kind.Keyword keyword.Print) = Operand
awaited (kind.Keyword keyword.Pr) = Operand
awaited (kind.Keyword keyword.Input) = Operand
awaited (kind.Keyword keyword.If) = Operand
awaited (kind.Keyword keyword.Goto) = Operand
awaited (kind.Keyword keyword.Gosub) = Operand
awaited (kind.Keyword keyword.Rem) = Remark
awaited _ = Word

-- a line has only spaces between two places, counted from 0
abbrev pub AreSpaces : List ℕ → ℕ → ℕ → Type 0
AreSpaces line from to = (k : ℕ) → from ≤ k → k < to → slice_index line k ≡ 32

-- from a place on the first byte that is no space is at another place
pub record IsWritten (line : List ℕ) (from place : ℕ) : Type 0 where
  pub in_order : from ≤ place
  pub within : place < length line
  pub spaces : AreSpaces line from place
  pub written : slice_index line place ≢ 32

-- from a place on the first byte that is no space is one of these
abbrev pub Follows : List ℕ → ℕ → (ℕ → Type 0) → Type 0
Follows line from Is = (place : ℕ) × IsWritten line from place × Is (slice_index line place)

-- from a place on a word is written, in capitals or not, with any spaces before its letters, and ends before another place
abbrev pub IsWord : List ℕ → ℕ → List ℕ → ℕ → Type 0
IsWord line from [] end = from ≡ end
IsWord line from (b ∷ word) end = (place : ℕ) × IsWritten line from place × (upper (slice_index line place) ≡ b) × IsWord line (place + 1) word end

-- a word is not written there
abbrev pub LacksWord : List ℕ → ℕ → List ℕ → Type 0
LacksWord line from word = (end : ℕ) → IsWord line from word end → ⊥

-- a first word of a statement is written there, and no longer one is
pub record IsLongest (line : List ℕ) (from : ℕ) (k : Keyword) (end : ℕ) : Type 0 where
  pub word : IsWord line from (spelled k) end
  pub longest : (other : Keyword) (place : ℕ) → IsWord line from (spelled other) place → place ≤ end

-- neither THEN nor a first word of a statement is written there
pub record LacksWords (line : List ℕ) (from : ℕ) : Type 0 where
  pub no_then : LacksWord line from (codes "THEN")
  pub no_keyword : (k : Keyword) → LacksWord line from (spelled k)

-- = (61) comes next
abbrev pub IsAssigned : List ℕ → ℕ → Type 0
IsAssigned line from = Follows line from (λ b. b ≡ 61)

-- no quote (34) is between two places
abbrev pub LacksQuotes : List ℕ → ℕ → ℕ → Type 0
LacksQuotes line from to = (k : ℕ) → from ≤ k → k < to → slice_index line k ≢ 34

-- whether two bytes are one relation: <= <> >= >< (60 is <, 61 is =, 62 is >)
abbrev pub is_pair : ℕ → ℕ → Bool
is_pair a b = ((a == 60) && ((b == 61) || (b == 62))) || ((a == 62) && ((b == 61) || (b == 60)))

-- the kind of a byte that is a token alone: one of + - * / = ( ) , ; in this order, or one that begins nothing
abbrev pub mark_of : ℕ → TokenKind
mark_of b =
    if ((b == 43) || (b == 45)) || ((b == 42) || (b == 47)) then kind.Operator
    else if b == 61 then kind.Relation
    else if b == 40 then kind.Open
    else if b == 41 then kind.Close
    else if b == 44 then kind.Comma
    else if b == 59 then kind.Semicolon
    else kind.Stray

-- The tokens that begin at a place, each with its kind, where that is not plain, and the place behind it.

-- digits with any spaces between them, up to the last one before something else
pub record NumberAt (line : List ℕ) (start end : ℕ) : Type 0 where
  pub some : start < end
  pub within : end ≤ length line
  pub digits : (k : ℕ) → start ≤ k → k < end → IsDigit (slice_index line k) ⊎ (slice_index line k ≡ 32)
  pub last : IsDigit (slice_index line (end - 1))
  pub no_more : Follows line end IsDigit → ⊥

-- where an operand is awaited a letter begins RND, else it is a variable
pub data OperandAt (line : List ℕ) (start : ℕ) : TokenKind → ℕ → Type 0 where
  random : (end : ℕ) → IsWord line start (codes "RND") end → OperandAt line start kind.Random end
  variable : LacksWord line start (codes "RND") → OperandAt line start kind.Variable (start + 1)

-- THEN, or the longest first word of a statement
pub data WordAt (line : List ℕ) (start : ℕ) : TokenKind → ℕ → Type 0 where
  then : (end : ℕ) → IsWord line start (codes "THEN") end → WordAt line start kind.Then end
  first_word : (k : Keyword) (end : ℕ) → IsLongest line start k end → WordAt line start (kind.Keyword k) end

-- elsewhere a letter is a variable before =, else it begins a word, else nothing
pub data FirstAt (line : List ℕ) (start : ℕ) : TokenKind → ℕ → Type 0 where
  assigned : IsAssigned line (start + 1) → FirstAt line start kind.Variable (start + 1)
  word : (IsAssigned line (start + 1) → ⊥) → (k : TokenKind) (end : ℕ) → WordAt line start k end → FirstAt line start k end
  nothing : (IsAssigned line (start + 1) → ⊥) → LacksWords line start → FirstAt line start kind.Stray (start + 1)

-- what a letter begins, by what is awaited
abbrev pub LetterAt : Awaits → List ℕ → ℕ → TokenKind → ℕ → Type 0
LetterAt Operand line start k end = OperandAt line start k end
LetterAt _ line start k end = FirstAt line start k end

-- a text up to its second quote, or without one up to the line's end
pub data TextAt (line : List ℕ) (start : ℕ) : TokenKind → ℕ → Type 0 where
  quoted : (second : ℕ) → start < second → second < length line → LacksQuotes line (start + 1) second → slice_index line second ≡ 34
      → TextAt line start kind.Text (second + 1)
  unclosed : LacksQuotes line (start + 1) (length line) → TextAt line start kind.Stray (length line)

-- < or > with the byte that comes next, if both are one relation, else alone
pub data RelationAt (line : List ℕ) (start : ℕ) : ℕ → Type 0 where
  pair : (second : ℕ) → IsWritten line (start + 1) second → is_pair (slice_index line start) (slice_index line second) ≡ true → RelationAt line start (second + 1)
  single : (Follows line (start + 1) (λ b. is_pair (slice_index line start) b ≡ true) → ⊥) → RelationAt line start (start + 1)

-- a letter, in capitals or not
abbrev pub is_any_letter : ℕ → Bool
is_any_letter b = is_letter (upper b)

-- < or >
abbrev pub is_sign : ℕ → Bool
is_sign b = (b == 60) || (b == 62)

-- a token by its first byte
pub data TokenAt (awaits : Awaits) (line : List ℕ) (start : ℕ) : TokenKind → ℕ → Type 0 where
  number : (end : ℕ) → is_digit (slice_index line start) ≡ true → NumberAt line start end → TokenAt awaits line start kind.Number end
  letter : (k : TokenKind) (end : ℕ) → is_any_letter (slice_index line start) ≡ true → LetterAt awaits line start k end → TokenAt awaits line start k end
  text : (k : TokenKind) (end : ℕ) → slice_index line start ≡ 34 → TextAt line start k end → TokenAt awaits line start k end
  relation : (end : ℕ) → is_sign (slice_index line start) ≡ true → RelationAt line start end → TokenAt awaits line start kind.Relation end
  mark : is_digit (slice_index line start) ≡ false → is_any_letter (slice_index line start) ≡ false → slice_index line start ≢ 34
      → is_sign (slice_index line start) ≡ false → TokenAt awaits line start (mark_of (slice_index line start)) (start + 1)
