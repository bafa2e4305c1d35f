-- A tidy line, and what comes of each line of a source.
use Rattle.std.specs.Prelude.{◌≡◌, ◌≢◌, ℕ, ◌+◌, ◌<◌, ◌≤◌, List, [], ◌∷◌, ◌++◌, length, take, drop}
use Rattle.std.specs.Prelude.{if◌then◌else◌, Ok, Err}
use Rattle.tb_basic_grammar.specs.Grammar.{is_digit}
use Rattle.tb_basic_text.specs.declared.notation.Notation.{Notation}
use Rattle.tb_parser.specs.Readings.{Edit, LineIn, Refusal}
use Rattle.tb_basic_format.specs.Kept.{kept}
use Rattle.tb_basic_format.specs.Statements.{tidy_statement}

-- how many digits are at the front
abbrev pub digits : List ℕ → ℕ
digits [] = 0
digits (b ∷ text) = if is_digit b then 1 + digits text else 0

-- a line's number, with a space before the statement that follows it
abbrev pub numbered : List ℕ → List ℕ → List ℕ
numbered number [] = number
numbered number (b ∷ text) = number ++ 32 ∷ tidy_statement (b ∷ text)

-- a line without spaces, made tidy
abbrev pub tidied : List ℕ → List ℕ
tidied text = numbered (take (digits text) text) (drop (digits text) text)

-- the tidy form of a line
abbrev pub tidy_line : List ℕ → List ℕ
tidy_line line = tidied (kept line)

-- What comes of a good line: its tidy form, unless that has more than 255 bytes, or would say something else.
pub data IsMadeTidy (line : List ℕ) : List ℕ → Type 0 where
  tidy : length (tidy_line line) ≤ 255 → kept (tidy_line line) ≡ kept line → IsMadeTidy line (tidy_line line)
  too_long : 255 < length (tidy_line line) → IsMadeTidy line line
  other : kept (tidy_line line) ≢ kept line → IsMadeTidy line line

-- a line that is read
abbrev pub IsGood : Notation → List ℕ → Type 0
IsGood notation line = (e : Edit) × LineIn notation line (Ok e)

-- a line that is refused
abbrev pub IsBad : Notation → List ℕ → Type 0
IsBad notation line = (r : Refusal) × LineIn notation line (Err r)

-- What comes of a line: a bad one stays as it is. A line of spaces is good, and its tidy form is empty.
pub data IsTidied (notation : Notation) (line : List ℕ) : List ℕ → Type 0 where
  good : (new : List ℕ) → IsGood notation line → IsMadeTidy line new → IsTidied notation line new
  bad : IsBad notation line → IsTidied notation line line
