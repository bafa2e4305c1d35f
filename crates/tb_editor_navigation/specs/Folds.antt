-- Lines that can be folded.
use Rattle.std.specs.Prelude.{ℕ, ◌+◌, ◌-◌, Bool, true, false, ◌||◌, nat_lt, List, [], ◌∷◌, ◌++◌, codes, drop, Option, Some, None, if◌then◌else◌}
use Rattle.serde_json.specs.Data.{Data, array, member, no_members, number, object, string, unsigned}
use Rattle.serde_json.specs.View.{items_of}
use Rattle.tb_basic_syntax.specs.Source.{Statement, Return}
use Rattle.tb_parser.specs.Readings.{Edit}
use Rattle.tb_basic_names.specs.Lines.{does, statement_in}
use Rattle.tb_basic_names.specs.Sources.{edits_of}
use Rattle.tb_basic_names.specs.declared.lines.Line.{Line as SourceLine}
use Rattle.tb_editor_navigation.specs.Remarks.{is_remark}
use Rattle.tb_editor_navigation.specs.Symbols.{is_called, standing_number}

-- lines that fold, from 0
abbrev pub fold_value : List ℕ → ℕ → ℕ → Data
fold_value kind first last =
    object (member (codes "endLine") (number (unsigned last)) (member (codes "kind") (string kind) (member (codes "startLine") (number (unsigned first)) no_members)))

-- lines that fold, from 0, as a list of one
abbrev pub fold : List ℕ → ℕ → ℕ → List Data
fold kind first last = fold_value kind first last ∷ []

-- ── subroutines ──
-- whether a statement is RETURN
abbrev pub comes_back : Option Statement → Bool
comes_back (Some Return) = true
comes_back _ = false

-- whether a line's statement is RETURN
abbrev pub is_return : Edit → Bool
is_return e = comes_back (statement_in e)

-- whether a line stands, by its number, and its statement is RETURN
abbrev pub returns_by : Option ℕ → Edit → Bool
returns_by None e = false
returns_by (Some n) e = is_return e

-- whether the line at a place stands and is RETURN
abbrev pub returns : List Edit → ℕ → Edit → Bool
returns all place e = returns_by (standing_number all place e) e

-- the places of such lines among these, of which the first is at place i
abbrev pub returns_from : List Edit → ℕ → List SourceLine → List ℕ
returns_from all i [] = []
returns_from all i (l ∷ ls) = if returns all i (does l.edit) then i ∷ returns_from all (i + 1) ls else returns_from all (i + 1) ls

-- the places of the lines of a source that stand and are RETURN
abbrev pub returns_of : List SourceLine → List ℕ
returns_of lines = returns_from (edits_of lines) 0 lines

-- the first of these places behind one
abbrev pub first_behind : ℕ → List ℕ → Option ℕ
first_behind place [] = None
first_behind place (other ∷ places) = if nat_lt place other then Some other else first_behind place places

-- a subroutine, if a line ends it
abbrev pub subroutine : ℕ → Option ℕ → List Data
subroutine first None = []
subroutine first (Some last) = fold (codes "region") first last

-- the subroutine that a line begins, by its number if it stands
abbrev pub called_by : List SourceLine → List ℕ → ℕ → Option ℕ → List Data
called_by all returns place None = []
called_by all returns place (Some n) = if is_called n all then subroutine place (first_behind place returns) else []

-- the subroutine that the line at a place begins
abbrev pub called_at : List SourceLine → List ℕ → ℕ → SourceLine → List Data
called_at all returns place l = called_by all returns place (standing_number (edits_of all) place (does l.edit))

-- ── remarks ──
-- how many lines at the front are remarks
abbrev pub remarks : List SourceLine → ℕ
remarks [] = 0
remarks (l ∷ ls) = if is_remark (does l.edit) then remarks ls + 1 else 0

-- so many remarks, if no other is before them
abbrev pub remarks_at : Bool → ℕ → ℕ → List Data
remarks_at is_behind place count = if is_behind || nat_lt count 2 then [] else fold (codes "comment") place (place + (count - 1))

-- ── all ──
-- what begins at these lines, of which the first is at place i, by whether the line before is a remark
abbrev pub folds_from : List SourceLine → List ℕ → ℕ → Bool → List SourceLine → List Data
folds_from all returns i is_behind [] = []
folds_from all returns i is_behind (l ∷ ls) =
    called_at all returns i l ++ (remarks_at is_behind i (remarks (l ∷ ls)) ++ folds_from all returns (i + 1) (is_remark (does l.edit)) ls)

-- the lines of a source that can be folded
abbrev pub folds : List SourceLine → Data
folds lines = array (items_of (folds_from lines (returns_of lines) 0 false lines))
