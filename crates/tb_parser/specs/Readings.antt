-- What a line says, or why it is refused.
use Rattle.std.specs.Prelude.{◌≡◌, ◌≢◌, ℕ, ◌<◌, ◌≤◌, List, [], length, false, true, Option, Some, None, Result, Ok, Err}
use Rattle.tb_basic_syntax.specs.Source.{Expression, Statement}
use Rattle.tb_basic_grammar.specs.Grammar.{Reads, Whole}
use Rattle.tb_basic_grammar.specs.Statements.{States}
use Rattle.tb_parser.specs.declared.errors.SourceErrorKind.{SourceErrorKind}
use Rattle.tb_parser.specs.declared.errors.SourceErrorKind.TheVariants.{LineTooLong, BadByte, Unnumbered, BadLineNumber, NotCompiled, Syntax, NumberTooLarge}
use Rattle.tb_basic_text.specs.declared.notation.Notation.{Notation}
use Rattle.tb_basic_text.specs.declared.notation.Notation.TheVariants.{Plain}
use Rattle.tb_parser.specs.declared.squeeze.Placed.{Placed}
use Rattle.tb_parser.specs.Notations.{column_of, first_bad_in, squeezed_in}
use Rattle.tb_parser.specs.Squeezed.{squeezed, bytes}
use Rattle.tb_parser.specs.Scans.{first_written, starts_with_digit, number_at, left_out_word, column_left}

-- Why a line is refused. The column is None for Syntax, whose column no definition states.
pub record Refusal : Type 0 where
  pub kind : SourceErrorKind
  pub column : Option ℕ

-- a fault with its column
abbrev pub at_column : SourceErrorKind → ℕ → Refusal
at_column kind column = record { kind = kind; column = Some column }

-- A grammar: a text spells a value. The place is that of the first literal above 65,535, as the number of bytes left there.
abbrev pub Grammar : Type 0 → Type 1
Grammar A = List ℕ → A → Option ℕ → Type 0

-- the text spells nothing
abbrev pub HasNoReading : {A : Type 0} → Grammar A → List ℕ → Type 0
HasNoReading {A} grammar text = (a : A) (large : Option ℕ) → grammar text a large → ⊥

-- What a squeezed text is in a grammar: its value if it has a reading without a large literal, else one of three
-- faults. A text without a reading is not compiled if it contains a left-out word, else it is bad in its syntax.
pub data TextIs (A : Type 0) (grammar : Grammar A) (text : List Placed) : Result A Refusal → Type 0 where
  reads : (a : A) → grammar (bytes text) a None → TextIs A grammar text (Ok a)
  not_compiled : (column : ℕ) → HasNoReading grammar (bytes text) → left_out_word text ≡ Some column → TextIs A grammar text (Err (at_column NotCompiled column))
  syntax : HasNoReading grammar (bytes text) → left_out_word text ≡ None → TextIs A grammar text (Err (record { kind = Syntax; column = None }))
  number_too_large : (a : A) (left : ℕ) → grammar (bytes text) a (Some left) → TextIs A grammar text (Err (at_column NumberTooLarge (column_left left text)))

-- A line that is too long, or else has a bad byte, or else stands for too many bytes, as only one with signs can: the
-- column is that of the first byte too many.
pub data IsUnfitIn (notation : Notation) (line : List ℕ) : Refusal → Type 0 where
  line_too_long : 255 < length line → IsUnfitIn notation line (at_column LineTooLong 256)
  bad_byte : (column : ℕ) → length line ≤ 255 → first_bad_in notation line ≡ Some column → IsUnfitIn notation line (at_column BadByte column)
  stands_for_too_much : length line ≤ 255 → first_bad_in notation line ≡ None → 255 < length (squeezed_in notation line)
      → IsUnfitIn notation line (at_column LineTooLong (column_of 255 (squeezed_in notation line)))

-- a line that is neither
pub record IsFitIn (notation : Notation) (line : List ℕ) : Type 0 where
  pub short : length line ≤ 255
  pub clean : first_bad_in notation line ≡ None
  pub brief : length (squeezed_in notation line) ≤ 255

-- a number that a line may have
abbrev pub IsLineNumber : ℕ → Type 0
IsLineNumber n = (1 ≤ n) × (n ≤ 32767)

-- a line with a line number, and the text after it
pub record IsNumberedIn (notation : Notation) (line : List ℕ) (number : ℕ) (text : List Placed) : Type 0 where
  pub fit : IsFitIn notation line
  pub value : (number_at 0 (squeezed_in notation line)).value ≡ number
  pub rest : (number_at 0 (squeezed_in notation line)).rest ≡ text
  pub in_range : IsLineNumber number

-- what a line does to the program
pub data Edit : Type 0 where
  Nothing : Edit
  Sets : (number : ℕ) (c : Statement) → Edit
  Deletes : (number : ℕ) → Edit

-- A line of a file. Its faults are looked for in this order: line too long, bad byte (`IsUnfitIn`), unnumbered, bad line
-- number, then one of not compiled, syntax, number too large (`TextIs`). A line of spaces alone is never bad, at any length.
pub data LineIn (notation : Notation) (line : List ℕ) : Result Edit Refusal → Type 0 where
  blank : first_written 1 line ≡ None → LineIn notation line (Ok Nothing)
  unfit : (first : ℕ) (r : Refusal) → first_written 1 line ≡ Some first → IsUnfitIn notation line r → LineIn notation line (Err r)
  unnumbered : (first : ℕ) → first_written 1 line ≡ Some first → IsFitIn notation line → starts_with_digit (squeezed_in notation line) ≡ false
      → LineIn notation line (Err (at_column Unnumbered first))
  bad_line_number : (first : ℕ) → first_written 1 line ≡ Some first → IsFitIn notation line → starts_with_digit (squeezed_in notation line) ≡ true
      → (IsLineNumber (number_at 0 (squeezed_in notation line)).value → ⊥) → LineIn notation line (Err (at_column BadLineNumber first))
  deletes : (number : ℕ) → IsNumberedIn notation line number [] → LineIn notation line (Ok (Deletes number))
  sets : (number : ℕ) (text : List Placed) (c : Statement) → IsNumberedIn notation line number text → text ≢ []
      → TextIs Statement States text (Ok c) → LineIn notation line (Ok (Sets number c))
  unread : (number : ℕ) (text : List Placed) (r : Refusal) → IsNumberedIn notation line number text → text ≢ []
      → TextIs Statement States text (Err r) → LineIn notation line (Err r)

-- a line without signs
abbrev pub LineIs : List ℕ → Result Edit Refusal → Type 0
LineIs line said = LineIn Plain line said

-- the whole text is one expression
abbrev pub Expresses : Grammar Expression
Expresses text e large = Reads Whole text e large []

-- A line that is to be one expression, without a line number.
pub data ExpressionIs (line : List ℕ) : Result Expression Refusal → Type 0 where
  unfit_text : (r : Refusal) → IsUnfitIn Plain line r → ExpressionIs line (Err r)
  fit_text : (outcome : Result Expression Refusal) → IsFitIn Plain line → TextIs Expression Expresses (squeezed line) outcome → ExpressionIs line outcome
