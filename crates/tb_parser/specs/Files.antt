-- The program of a file, line by line.
use Rattle.std.specs.Prelude.{ℕ, ◌+◌, ◌≤◌, List, [], ◌∷◌, length, Some, None, Result, Ok, Err, if◌then◌else◌, ◌==◌, nat_lt}
use Rattle.tb_basic_syntax.specs.Source.{Statement, Numbered, Program}
use Rattle.tb_basic_grammar.specs.Statements.{States}
use Rattle.tb_parser.specs.declared.errors.SourceErrorKind.TheVariants.{Empty}
use Rattle.tb_basic_text.specs.declared.notation.Notation.{Notation}
use Rattle.tb_basic_text.specs.declared.notation.Notation.TheVariants.{Plain}
use Rattle.tb_parser.specs.Readings.{Refusal, Edit, Nothing, Sets, Deletes, LineIn}

-- a line of a program
abbrev pub line_at : ℕ → Statement → Numbered Statement
line_at number c = record { number = number; content = c }

-- a program with one line's entry set, in rising order
abbrev pub with_line : ℕ → Statement → Program → Program
with_line number c [] = line_at number c ∷ []
with_line number c (line ∷ lines) =
    if nat_lt number line.number then line_at number c ∷ line ∷ lines
    else if number == line.number then line_at number c ∷ lines
    else line ∷ with_line number c lines

-- a program without one line's entry, if there is one
abbrev pub without_line : ℕ → Program → Program
without_line number [] = []
without_line number (line ∷ lines) = if number == line.number then lines else line ∷ without_line number lines

-- a program after a line of its file
abbrev pub edited : Edit → Program → Program
edited Nothing p = p
edited (Sets number c) p = with_line number c p
edited (Deletes number) p = without_line number p

-- why a file is refused: its first bad line, from 1, or line 0 if it has no lines, and the refusal
pub record FileRefusal : Type 0 where
  pub line : ℕ
  pub refusal : Refusal

-- a line's refusal at its place in the file
abbrev pub refused_at : ℕ → Refusal → FileRefusal
refused_at line r = record { line = line; refusal = r }

-- what a file is: its program, or its refusal
abbrev pub Outcome : Type 0
Outcome = Result Program FileRefusal

-- at the end: a program without lines is refused, at line 0 and column 0
abbrev pub at_end : Program → Outcome
at_end [] = Err (refused_at 0 (record { kind = Empty; column = Some 0 }))
at_end (line ∷ lines) = Ok (line ∷ lines)

-- From a line on, with the program that the lines before it made, these lines make a program or are refused.
pub data LinesIn (notation : Notation) : ℕ → Program → List (List ℕ) → Outcome → Type 0 where
  end : (n : ℕ) (p : Program) → LinesIn notation n p [] (at_end p)
  bad : (n : ℕ) (p : Program) (line : List ℕ) (lines : List (List ℕ)) (r : Refusal) → LineIn notation line (Err r)
      → LinesIn notation n p (line ∷ lines) (Err (refused_at n r))
  good : (n : ℕ) (p : Program) (line : List ℕ) (lines : List (List ℕ)) (edit : Edit) (outcome : Outcome)
      → LineIn notation line (Ok edit) → LinesIn notation (n + 1) (edited edit p) lines outcome → LinesIn notation n p (line ∷ lines) outcome

-- lines without signs
abbrev pub LinesAre : ℕ → Program → List (List ℕ) → Outcome → Type 0
LinesAre n p lines outcome = LinesIn Plain n p lines outcome

-- a statement that is spelled by a text of at most 255 bytes
pub record IsStated (c : Statement) : Type 0 where
  pub text : List ℕ
  pub short : length text ≤ 255
  pub states : States text c None

-- each statement of a program is spelled by a text of at most 255 bytes
abbrev pub AreStated : Program → Type 0
AreStated [] = Unit {0}
AreStated (line ∷ lines) = IsStated line.content × AreStated lines
