-- The symbols of a source.
use Rattle.std.specs.Prelude.{ℕ, ◌+◌, Bool, true, false, ◌||◌, ◌==◌, not, List, [], ◌∷◌, ◌++◌, codes, Option, Some, None, if◌then◌else◌}
use Rattle.std.specs.Option.{option_and_then}
use Rattle.std.specs.Fmt.{decimal}
use Rattle.serde_json.specs.Data.{Data, array, member, no_members, number, object, string, unsigned}
use Rattle.serde_json.specs.View.{items_of}
use Rattle.tb_basic_places.specs.Spans.{line_span}
use Rattle.tb_basic_places.specs.declared.spans.Span.{Span}
use Rattle.tb_editor_values.specs.Ranges.{range_of}
use Rattle.tb_parser.specs.Readings.{Edit}
use Rattle.tb_basic_names.specs.Jumps.{jump_in}
use Rattle.tb_basic_names.specs.Lines.{does, number_in}
use Rattle.tb_basic_names.specs.Places.{number_span}
use Rattle.tb_basic_names.specs.Sources.{edits_of, stands}
use Rattle.tb_basic_names.specs.declared.jumps.Jump.{Jump}
use Rattle.tb_basic_names.specs.declared.lines.Line.{Line as SourceLine}
use Rattle.tb_editor_navigation.specs.Remarks.{remark_of, shown}

-- the number of a line that stands
abbrev pub standing_number : List Edit → ℕ → Edit → Option ℕ
standing_number all place e = option_and_then (λ n. if stands place n all then Some n else None) (number_in e)

-- where a jump goes that comes back
abbrev pub returning : Jump → Option ℕ
returning jump = if jump.returns then Some jump.target else None

-- to which number a line that stands goes by a constant GOSUB
abbrev pub call : List Edit → ℕ → Edit → Option ℕ
call all place e = option_and_then (λ n. option_and_then returning (jump_in e)) (standing_number all place e)

-- whether that is a number
abbrev pub is_number : ℕ → Option ℕ → Bool
is_number n None = false
is_number n (Some m) = m == n

-- whether one of these lines, of which the first is at place i, goes to a number, or one was found before
abbrev pub called_from : List Edit → ℕ → ℕ → Bool → List SourceLine → Bool
called_from all n i found [] = found
called_from all n i found (l ∷ ls) = called_from all n (i + 1) (is_number n (call all i (does l.edit)) || found) ls

-- whether a line that stands goes to a number by a constant GOSUB
abbrev pub is_called : ℕ → List SourceLine → Bool
is_called n lines = called_from (edits_of lines) n 0 false lines

-- what a symbol is called
abbrev pub name_of : Bool → ℕ → List ℕ → List ℕ
name_of false n remark = remark
name_of true n [] = codes "GOSUB " ++ decimal n
name_of true n (b ∷ remark) = codes "GOSUB " ++ (decimal n ++ (codes ": " ++ b ∷ remark))

-- the kind of a symbol: a function, or a text
abbrev pub kind_of : Bool → ℕ
kind_of is_called = if is_called then 12 else 15

-- a symbol
abbrev pub symbol_value : ℕ → List ℕ → Span → Span → Data
symbol_value kind name line place =
    object (member (codes "kind") (number (unsigned kind)) (member (codes "name") (string name) (member (codes "range") (range_of line)
    (member (codes "selectionRange") (range_of place) no_members))))

-- whether a line that stands has no symbol: no GOSUB goes there, and it has no remark
abbrev pub is_hidden : Bool → List ℕ → Bool
is_hidden is_called [] = not is_called
is_hidden is_called (b ∷ remark) = false

-- a symbol by its place
abbrev pub placed : Bool → ℕ → List ℕ → Span → Option Span → List Data
placed is_called n remark line None = []
placed is_called n remark line (Some place) = symbol_value (kind_of is_called) (name_of is_called n remark) line place ∷ []

-- the symbol of a line that stands, if a GOSUB goes there or it has a remark
abbrev pub symbol_on : Bool → ℕ → ℕ → SourceLine → List Data
symbol_on is_called n file_line l =
    if is_hidden is_called (shown (remark_of l)) then []
    else placed is_called n (shown (remark_of l)) (line_span file_line l.text.now) (number_span file_line l)

-- the symbol of a line by its number, if it stands, and a GOSUB goes there or it has a remark
abbrev pub symbol_by : List SourceLine → ℕ → SourceLine → Option ℕ → List Data
symbol_by all file_line l None = []
symbol_by all file_line l (Some n) = symbol_on (is_called n all) n file_line l

-- the symbol of the line at a place
abbrev pub symbol_at : List SourceLine → ℕ → ℕ → SourceLine → List Data
symbol_at all place file_line l = symbol_by all file_line l (standing_number (edits_of all) place (does l.edit))

-- the symbols of these lines, of which the first is at place i
abbrev pub symbols_from : List SourceLine → ℕ → List SourceLine → List Data
symbols_from all i [] = []
symbols_from all i (l ∷ ls) = symbol_at all i (i + 1) l ++ symbols_from all (i + 1) ls

-- the symbols of a source
abbrev pub symbols : List SourceLine → Data
symbols lines = array (items_of (symbols_from lines 0 lines))
