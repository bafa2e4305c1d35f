-- The file of a source, and which of its lines give the program its lines.
use Rattle.std.specs.Prelude.{ℕ, zero, suc, ◌+◌, ◌-◌, ◌&&◌, ◌||◌, ◌==◌, Bool, nat_lt, List, [], ◌∷◌, drop, length, slice_get, slice_index_or}
use Rattle.std.specs.Prelude.{Option, Some, None, if◌then◌else◌}
use Rattle.std.specs.Str.{bytes_eq}
use Rattle.serde_json.specs.Data.{Data}
use Rattle.tb_dap_values.specs.Bodies.{source_value}
use Rattle.tb_editor_navigation.specs.Remarks.{shown, trimmed}
use Rattle.tb_parser.specs.Readings.{Edit}
use Rattle.tb_basic_names.specs.Lines.{does, number_in}
use Rattle.tb_basic_names.specs.Sources.{edits_of, standing, stands}
use Rattle.tb_basic_names.specs.declared.lines.Line.{Line}
use Rattle.tb_dap_views.specs.declared.sources.Breakable.{Breakable}
use Rattle.tb_dap_views.specs.declared.sources.SourceFile.{SourceFile}

-- what follows the last slash, or this
abbrev pub last_part : List ℕ → List ℕ → List ℕ
last_part found [] = found
last_part found (b ∷ bs) = last_part (if b == 47 then bs else found) bs

-- the file, as messages name it: by the path's last part, and the path
abbrev pub source_of : SourceFile → Data
source_of f = source_value (shown (last_part f.path.now f.path.now)) f.path.now

-- a path ends in a slash and another path
abbrev pub ends_in : List ℕ → List ℕ → Bool
ends_in path other =
    nat_lt (length other) (length path)
    && ((slice_index_or path (length path - length other - 1) 0 == 47) && bytes_eq (drop (length path - length other) path) other)

-- two paths are taken for those of one file
abbrev pub is_same_file : List ℕ → List ℕ → Bool
is_same_file one other = bytes_eq one other || (ends_in one other || ends_in other one)

-- ---- lines of the file

-- the line at a place
abbrev pub line_at : List Line → Option ℕ → Option Line
line_at lines (Some i) = slice_get lines i
line_at lines None = None

-- its text without spaces at its ends
abbrev pub line_text : Option Line → List ℕ
line_text (Some l) = shown (trimmed l.text.now)
line_text None = []

-- its number, if it is good and has one
abbrev pub line_number : Option Line → Option ℕ
line_number (Some l) = number_in (does l.edit)
line_number None = None

-- lines of a file of so many are counted from 1; 0 is none
abbrev pub counted : ℕ → Option ℕ → ℕ
counted count (Some i) = if nat_lt i count then i + 1 else 0
counted count None = 0

-- where the line is that gives the program its line of a number
abbrev pub place_of : SourceFile → ℕ → Option ℕ
place_of f n = standing n (edits_of f.source.lines.items)

-- the line of the file, counted from 1, that gives the program its line of a number; 0 if there is none
abbrev pub line_of : SourceFile → ℕ → ℕ
line_of f n = counted (length f.source.lines.items) (place_of f n)

-- that line without spaces at its ends
abbrev pub text_of : SourceFile → ℕ → List ℕ
text_of f n = line_text (line_at f.source.lines.items (place_of f n))

-- the number of the line at a place, if it stands there
abbrev pub standing_by : List Edit → ℕ → Option ℕ → Option ℕ
standing_by es i (Some n) = if stands i n es then Some n else None
standing_by es i None = None

-- the number of the line at a place, if it gives the program its line
abbrev pub standing_at : SourceFile → ℕ → Option ℕ
standing_at f i = standing_by (edits_of f.source.lines.items) i (line_number (slice_get f.source.lines.items i))

-- a line that gives the program this line, or else the next one that does
abbrev pub breakable_by : ℕ → Option ℕ → Option Breakable → Option Breakable
breakable_by i (Some n) next = Some (record { number = n; place = i })
breakable_by i None next = next

-- the first of n lines from a place on that gives the program a line
abbrev pub breakable_in : SourceFile → ℕ → ℕ → Option Breakable
breakable_in f zero i = None
breakable_in f (suc n) i = breakable_by i (standing_at f i) (breakable_in f n (i + 1))

-- the first line from a place on that gives the program a line
abbrev pub breakable : SourceFile → ℕ → Option Breakable
breakable f from = breakable_in f (length f.source.lines.items - from) from

-- ---- lines of the program

-- the last of these lines below a number, or one that was found before
abbrev pub below : Option ℕ → List (ℕ × ℕ) → ℕ → Option ℕ
below found [] n = found
below found (s ∷ starts) n = if nat_lt s.0 n then below (Some s.0) starts n else below found starts n

-- the number of the last of these lines
abbrev pub last_number : Option ℕ → List (ℕ × ℕ) → Option ℕ
last_number found [] = found
last_number found (s ∷ starts) = last_number (Some s.0) starts

-- the line before another one; before none it is the last one
abbrev pub before : List (ℕ × ℕ) → Option ℕ → Option ℕ
before starts (Some n) = below None starts n
before starts None = last_number None starts
