-- Which lines of a source give the program its lines.
use Rattle.std.specs.Prelude.{ℕ, ◌≡◌, ◌+◌, Bool, false, List, [], ◌∷◌, map, All, slice_get, Option, Some, None, ◌==◌, if◌then◌else◌}
use Rattle.tb_basic_syntax.specs.Source.{Statement, Program}
use Rattle.tb_basic_meaning.specs.Control.{content_at}
use Rattle.tb_parser.specs.Files.{edited}
use Rattle.tb_basic_text.specs.Lines.{lines_of_file}
use Rattle.tb_parser.specs.Readings.{Edit, Nothing, Sets, Deletes}
use Rattle.tb_basic_text.specs.declared.notation.Notation.{Notation}
use Rattle.tb_basic_names.specs.Lines.{does}
use Rattle.tb_basic_names.specs.declared.lines.Line.{Line}

-- these are the lines of a source, each read in the notation
abbrev pub AreLinesOf : Notation → List ℕ → List Line → Type 0
AreLinesOf notation source lines = (map (λ l. l.text.now) lines ≡ lines_of_file source) × All (λ l. l.notation ≡ notation) lines

-- what lines do
abbrev pub edits_of : List Line → List Edit
edits_of lines = map (λ l. does l.edit) lines

-- the program that lines make of another
abbrev pub made_of : Program → List Edit → Program
made_of p [] = p
made_of p (e ∷ es) = made_of (edited e p) es

-- the program of the good lines
abbrev pub program_of : List Edit → Program
program_of es = made_of [] es

-- where the line stands that gives a number its statement, after line i of the file: a bare number takes it away
abbrev pub held : ℕ → ℕ → Option ℕ → Edit → Option ℕ
held n i found Nothing = found
held n i found (Sets m c) = if m == n then Some i else found
held n i found (Deletes m) = if m == n then None else found

-- where the line stands that gives a number its statement, after these lines, of which the first is line i
abbrev pub standing_from : ℕ → ℕ → Option ℕ → List Edit → Option ℕ
standing_from n i found [] = found
standing_from n i found (e ∷ es) = standing_from n (i + 1) (held n i found e) es

-- the line that stands: the last good one of its number, if that has a statement
abbrev pub standing : ℕ → List Edit → Option ℕ
standing n es = standing_from n 0 None es

-- whether that is a place
abbrev pub is_place : ℕ → Option ℕ → Bool
is_place i None = false
is_place i (Some k) = k == i

-- whether the line at a place stands, by its number
abbrev pub stands : ℕ → ℕ → List Edit → Bool
stands i n es = is_place i (standing n es)

-- the line at a place gives the program its line n, and if there is none the program has none
abbrev pub Gives : ℕ → List Edit → Option ℕ → Type 0
Gives n es None = content_at (program_of es) n ≡ None
Gives n es (Some i) = (c : Statement) × (slice_get es i ≡ Some (Sets n c)) × (content_at (program_of es) n ≡ Some c)

-- a place that is found, if there is one
abbrev pub joined : Option (Option ℕ) → Option ℕ
joined None = None
joined (Some place) = place
