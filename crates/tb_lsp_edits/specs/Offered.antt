-- What is offered.
use Rattle.std.specs.Prelude.{ℕ, ◌≡◌, ◌⊎◌, Bool, true, false, ◌&&◌, ◌||◌, ◌==◌, not, List, [], ◌∷◌, ◌++◌, Option, None, Ok, Err, codes}
use Rattle.std.specs.Char.{to_ascii_uppercase}
use Rattle.tb_parser.specs.Readings.{Edit, LineIn, Refusal}
use Rattle.tb_basic_text.specs.declared.notation.Notation.{Notation}
use Rattle.tb_parser.specs.declared.errors.SourceErrorKind.TheVariants.{Syntax}
use Rattle.tb_parser.specs.declared.lexer.TokenKind.{TokenKind}
use Rattle.tb_lsp_edits.specs.Candidates.{spelled}
use Rattle.tb_lsp_edits.specs.Typed.{is_closed, is_jump}
use Rattle.tb_lsp_edits.specs.declared.candidates.Candidate.{Candidate}
use Rattle.tb_lsp_edits.specs.declared.candidates.Candidate.TheVariants as candidate
use Rattle.tb_lsp_edits.specs.declared.candidates.Word.{Word}
use Rattle.tb_lsp_edits.specs.declared.candidates.Word.TheVariants as word
use Rattle.tb_lsp_edits.specs.declared.typed.Typed.{Typed}

-- whether a text begins with another one, which may have small letters
abbrev pub begins : List ℕ → List ℕ → Bool
begins text [] = true
begins [] (b ∷ part) = false
begins (a ∷ text) (b ∷ part) = (a == to_ascii_uppercase b) && begins text part

-- whether a line is good in a notation
abbrev pub IsGood : Notation → List ℕ → Bool → Type 0
IsGood notation line true = (e : Edit) × LineIn notation line (Ok e)
IsGood notation line false = (r : Refusal) × LineIn notation line (Err r)

-- Whether a line begins one of the grammar in a notation: one that does is good, or bad in its syntax alone; one that
-- doesn't is bad. Where a fault of syntax stands no definition states.
abbrev pub BeginsLine : Notation → List ℕ → Bool → Type 0
BeginsLine notation line true = IsGood notation line true ⊎ LineIn notation line (Err (record { kind = Syntax; column = None }))
BeginsLine notation line false = IsGood notation line false

-- the shortest that may follow a word, where nothing else is open; nothing has to follow PRINT, RETURN, END and REM
abbrev pub at_least : Word → List ℕ
at_least word.Let = codes "A=1"
at_least word.Input = codes "A"
at_least word.If = codes "1=1END"
at_least word.Then = codes "END"
at_least word.Goto = codes "1"
at_least word.Gosub = codes "1"
at_least word.Random = codes "(1)"
at_least _ = []

-- whether a line with a candidate at its end is that of a word, and is good with the shortest that may follow
abbrev pub GoesOn : Notation → List ℕ → Candidate → Bool → Type 0
GoesOn notation line (candidate.Word w) goes = IsGood notation (line ++ at_least w) goes
GoesOn notation line (candidate.Number n) goes = goes ≡ false

-- whether a line fits that has a candidate at its end: it begins one of the grammar, or goes on to a good one
abbrev pub Fits : Notation → List ℕ → Candidate → Bool → Type 0
Fits notation line c true = BeginsLine notation line true ⊎ GoesOn notation line c true
Fits notation line c false = BeginsLine notation line false × GoesOn notation line c false

-- whether a candidate is the number of a line, and none is meant: that is so but behind GOTO and GOSUB
abbrev pub is_misplaced : Option TokenKind → Candidate → Bool
is_misplaced before (candidate.Word w) = false
is_misplaced before (candidate.Number n) = not (is_jump before)

-- whether a candidate is not asked for
abbrev pub is_excluded : Typed → Candidate → Bool
is_excluded t c = is_closed t.before || (is_misplaced t.before c || not (begins (spelled c) t.part.now))

-- whether a candidate is offered, by that
abbrev pub IsOfferedBy : Bool → Notation → Typed → Candidate → Bool → Type 0
IsOfferedBy true notation t c offered = offered ≡ false
IsOfferedBy false notation t c offered = Fits notation (t.base.now ++ spelled c) c offered

-- whether a candidate is offered behind what is typed: it begins so, and the line with it behind fits
abbrev pub IsOffered : Notation → Typed → Candidate → Bool → Type 0
IsOffered notation t c offered = IsOfferedBy (is_excluded t c) notation t c offered

-- a candidate, if it is offered
abbrev pub one : Bool → Candidate → List Candidate
one true c = c ∷ []
one false c = []

-- it comes behind others
abbrev pub AppendsOffered : Notation → Typed → Candidate → List Candidate → List Candidate → Type 0
AppendsOffered notation t c old new = (offered : Bool) × IsOffered notation t c offered × (new ≡ old ++ one offered c)

-- these candidates are offered of those
pub data Offers (notation : Notation) (t : Typed) : List Candidate → List Candidate → Type 0 where
  none : Offers notation t [] []
  offered : (c : Candidate) (cs found : List Candidate) → IsOffered notation t c true → Offers notation t cs found
      → Offers notation t (c ∷ cs) (c ∷ found)
  left_out : (c : Candidate) (cs found : List Candidate) → IsOffered notation t c false → Offers notation t cs found
      → Offers notation t (c ∷ cs) found
