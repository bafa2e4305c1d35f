-- The rules by which code around a place has a note: a table.
use Rattle.std.specs.Prelude.{ℕ, Bool, ◌&&◌, if◌then◌else◌, List, [], ◌∷◌, codes, Option, Some, None}
use Rattle.tb_engine_findings.specs.declared.notes.Note.{Note}
use Rattle.tb_engine_findings.specs.declared.notes.Note.TheVariants as note
use Rattle.tb_engine_findings.specs.declared.surroundings.Situation.{Situation}
use Rattle.tb_engine_findings.specs.declared.surroundings.Situation.TheVariants.{Anywhere, InPrint, AtItem, LastInPrint, WithoutRelation, Closed, ClosedLater, NeverClosed}
use Rattle.tb_engine_findings.specs.Patterns.{fits_end, fits_front}
use Rattle.tb_engine_findings.specs.Surroundings.{Surroundings, holds}

-- a situation, patterns of what the code before a place ends with and of what the code from it on begins with, and the note
pub record Rule : Type 0 where
  pub situation : Situation
  pub before : List ℕ
  pub behind : List ℕ
  pub note : Note

-- whether a rule fits the code around a place
abbrev pub fits : Rule → Surroundings → Bool
fits r s = holds r.situation s && (fits_end r.before s.before && fits_front r.behind s.behind)

-- the note of the first rule that fits
abbrev pub first_note : List Rule → Surroundings → Option Note
first_note [] s = None
first_note (r ∷ rs) s = if fits r s then Some r.note else first_note rs s

-- a rule
abbrev pub rule : Situation → (before behind : List ℕ) → Note → Rule
rule situation before behind note = record { situation = situation; before = before; behind = behind; note = note }

-- all rules
abbrev pub rules : List Rule
rules =
    rule LastInPrint (codes "") (codes ":") note.ColonAtEnd ∷
    rule Anywhere (codes "") (codes ":") note.Colon ∷
    rule Anywhere (codes "INPUT") (codes "\"") note.TextInInput ∷
    rule Anywhere (codes "*") (codes "*") note.Power ∷
    rule Anywhere (codes "o") (codes "s") note.SignedOperand ∷
    rule Anywhere (codes "=") (codes ">") note.AtLeast ∷
    rule Anywhere (codes "=") (codes "<") note.AtMost ∷
    rule Anywhere (codes "=") (codes "=") note.OneEqualSign ∷
    rule Anywhere (codes "") (codes "!=") note.Unequal ∷
    rule Closed (codes "") (codes ")") note.ExtraParenthesis ∷
    rule ClosedLater (codes "") (codes "r") note.RelationAsValue ∷
    rule Anywhere (codes "END") (codes "") note.NothingBehind ∷
    rule Anywhere (codes "RETURN") (codes "") note.NothingBehind ∷
    rule Anywhere (codes "LET") (codes "(") note.LongName ∷
    rule Anywhere (codes "INPUT") (codes "(") note.LongName ∷
    rule Anywhere (codes "THEN") (codes "(") note.ThenNumber ∷
    rule Anywhere (codes "l") (codes "(") note.Array ∷
    rule Anywhere (codes "") (codes "l(") note.Array ∷
    rule Anywhere (codes "") (codes ".") note.Fraction ∷
    rule Anywhere (codes "l") (codes "d") note.LongName ∷
    rule Anywhere (codes "") (codes "ld") note.LongName ∷
    rule Anywhere (codes "l") (codes "o=") note.Shorthand ∷
    rule Anywhere (codes "") (codes "lo=") note.Shorthand ∷
    rule Anywhere (codes "l") (codes "++") note.Shorthand ∷
    rule Anywhere (codes "") (codes "l++") note.Shorthand ∷
    rule Anywhere (codes "l") (codes "--") note.Shorthand ∷
    rule Anywhere (codes "") (codes "l--") note.Shorthand ∷
    rule Anywhere (codes "e") (codes "%b") note.Remainder ∷
    rule Anywhere (codes "") (codes "%") note.WholeName ∷
    rule Anywhere (codes "") (codes "l%") note.WholeName ∷
    rule Anywhere (codes "r") (codes "\"") note.TextName ∷
    rule WithoutRelation (codes "e") (codes "l") note.NoRelation ∷
    rule Anywhere (codes "") (codes "REM") note.RemarkBehind ∷
    rule Anywhere (codes "e") (codes "PRINT") note.Colon ∷
    rule Anywhere (codes "e") (codes "INPUT") note.Colon ∷
    rule Anywhere (codes "e") (codes "GOTO") note.Colon ∷
    rule Anywhere (codes "e") (codes "GOSUB") note.Colon ∷
    rule Anywhere (codes "e") (codes "RETURN") note.Colon ∷
    rule Anywhere (codes "e") (codes "END") note.Colon ∷
    rule Anywhere (codes "e") (codes "LET") note.Colon ∷
    rule Anywhere (codes "e") (codes "l=") note.Colon ∷
    rule Anywhere (codes "GOTOl") (codes "l") note.LineName ∷
    rule Anywhere (codes "GOSUBl") (codes "l") note.LineName ∷
    rule Anywhere (codes "PRINT") (codes "p") note.NoItem ∷
    rule Anywhere (codes "dPR") (codes "p") note.NoItem ∷
    rule InPrint (codes "p") (codes "p") note.NoItem ∷
    rule InPrint (codes "e") (codes "\"") note.NoSeparator ∷
    rule InPrint (codes "e") (codes "d") note.NoSeparator ∷
    rule InPrint (codes "e") (codes "(") note.NoSeparator ∷
    rule AtItem (codes "e") (codes "l") note.NoSeparator ∷
    rule NeverClosed (codes "") (codes "") note.NotClosed ∷ []

-- the note by the code around a place
abbrev pub note_by_rules : Surroundings → Option Note
note_by_rules s = first_note rules s
