-- The program of a good source without signs: what its lines make, if none of them is refused.
use Rattle.std.specs.Prelude.{◌≡◌, ℕ, ◌≤◌, List, [], ◌∷◌, ◌++◌, length, All, Bool, true, false, None, Ok, if◌then◌else◌}
use Rattle.tb_basic_syntax.specs.Source.{Statement, Program}
use Rattle.tb_basic_grammar.specs.Grammar.{IsDigit, value_after}
use Rattle.tb_basic_grammar.specs.Statements.{States}
use Rattle.tb_parser.specs.declared.squeeze.Mode.{Mode}
use Rattle.tb_parser.specs.declared.squeeze.Mode.TheVariants.{Code}
use Rattle.tb_basic_text.specs.declared.notation.Notation.TheVariants.{Plain}
use Rattle.tb_parser.specs.Files.{LinesIn, with_line, without_line}
use Rattle.tb_basic_text.specs.Lines.{lines_of_file}
use Rattle.tb_parser.specs.Scans.{is_bad}
use Rattle.tb_parser.specs.Squeezed.{after, is_dropped, shown}

-- whether all bytes before a remark are allowed
unfoldable pub is_clean : Mode → List ℕ → Bool
is_clean m [] = true
is_clean m (b ∷ line) = if is_bad m b then false else is_clean (after m b) line

-- the bytes that are left of a line: no spaces, and letters in upper case, but in texts and remarks
unfoldable pub kept_bytes : Mode → List ℕ → List ℕ
kept_bytes m [] = []
kept_bytes m (b ∷ line) = if is_dropped m b then kept_bytes (after m b) line else shown m b ∷ kept_bytes (after m b) line

-- a line begins with its number, and this text is left after it
pub record IsNumbered (line : List ℕ) (number : ℕ) (text : List ℕ) : Type 0 where
  pub short : length line ≤ 255
  pub clean : is_clean Code line ≡ true
  pub digits : List ℕ
  pub are_digits : All IsDigit digits
  pub left : kept_bytes Code line ≡ digits ++ text
  pub value : value_after 0 digits ≡ number
  pub in_range : (1 ≤ number) × (number ≤ 32767)

-- a good line makes another program of a program: it is blank, or its number alone, or its number and a statement
pub data LineMakes (p : Program) (line : List ℕ) : Program → Type 0 where
  blank : kept_bytes Code line ≡ [] → LineMakes p line p
  deletes : (number : ℕ) → IsNumbered line number [] → LineMakes p line (without_line number p)
  sets : (number : ℕ) (text : List ℕ) (s : Statement) → IsNumbered line number text → States text s None → LineMakes p line (with_line number s p)

-- good lines make another program of a program, one line after the other
pub data AllMake : Program → List (List ℕ) → Program → Type 0 where
  none : (p : Program) → AllMake p [] p
  more : (p q r : Program) (line : List ℕ) (lines : List (List ℕ)) → LineMakes p line q → AllMake q lines r → AllMake p (line ∷ lines) r

-- the program of a good source, which has a line at least
abbrev pub IsProgramOf : List ℕ → Program → Type 0
IsProgramOf source program = AllMake [] (lines_of_file source) program × (1 ≤ length program)

-- a source has a program where none of its lines is refused, and there alone
abbrev pub ProgramsAreMade : Type 0
ProgramsAreMade =
    (source : List ℕ) (program : Program) → (IsProgramOf source program → LinesIn Plain 1 [] (lines_of_file source) (Ok program))
    × (LinesIn Plain 1 [] (lines_of_file source) (Ok program) → IsProgramOf source program)
