-- The text of a source with other line numbers: what becomes of each of its lines.
use Rattle.std.specs.Prelude.{ℕ, ◌+◌, ◌-◌, Bool, false, ◌&&◌, ◌==◌, nat_lt, List, [], ◌∷◌, ◌++◌, length, slice_get, Option, Some, None, option_map, if◌then◌else◌}
use Rattle.tb_parser.specs.Readings.{Edit, Nothing, Sets, Deletes}
use Rattle.tb_basic_names.specs.Jumps.{jump_in}
use Rattle.tb_basic_names.specs.Lines.{does}
use Rattle.tb_basic_names.specs.Sources.{edits_of, stands}
use Rattle.tb_basic_names.specs.declared.lines.Line.{Line as SourceLine}
use Rattle.tb_basic_renumber.specs.Ends.{ends_of}
use Rattle.tb_basic_renumber.specs.Lines.{new_line}

-- ── a line ──
-- the new target of a line's jump
abbrev pub new_target : (ℕ → ℕ) → Edit → Option ℕ
new_target f e = option_map (λ jump. f jump.target) (jump_in e)

-- a line that stands, with its new number and target
abbrev pub moved_line : (ℕ → ℕ) → ℕ → SourceLine → List ℕ
moved_line f n l = new_line l.text.now l.tokens.items (f n) (new_target f (does l.edit))

-- What becomes of a line, by what it does: one of spaces stays, one that gives the program its line gets its new number,
-- and all others are left out.
abbrev pub kept_by : (ℕ → ℕ) → List Edit → ℕ → SourceLine → Edit → Option (List ℕ)
kept_by f all place l Nothing = Some l.text.now
kept_by f all place l (Sets n c) = if stands place n all then Some (moved_line f n l) else None
kept_by f all place l (Deletes n) = None

-- what becomes of the line at a place
abbrev pub kept : (ℕ → ℕ) → List Edit → ℕ → SourceLine → Option (List ℕ)
kept f all place l = kept_by f all place l (does l.edit)

-- ── the text ──
-- whether a byte was 13
abbrev pub is_return : Option ℕ → Bool
is_return None = false
is_return (Some b) = b == 13

-- whether a line's end begins with a byte 10
abbrev pub is_feed : List ℕ → Bool
is_feed [] = false
is_feed (b ∷ bytes) = b == 10

-- whether an empty line that ends so would be none behind a text: a byte 10 behind a byte 13 ends the same line
abbrev pub loses_line : List ℕ → List ℕ → Bool
loses_line text ending = is_return (slice_get text (length text - 1)) && is_feed ending

-- one more byte 10 where an empty line would be none
abbrev pub gap : List ℕ → List ℕ → List ℕ → List ℕ
gap text [] ending = if loses_line text ending then 10 ∷ [] else []
gap text (b ∷ line) ending = []

-- a text with one more line and its end
abbrev pub with_line : List ℕ → List ℕ → List ℕ → List ℕ
with_line text line ending = text ++ (gap text line ending ++ (line ++ ending))

-- a text with one more line and its end, if the line is kept
abbrev pub with_kept : List ℕ → Option (List ℕ) → List ℕ → List ℕ
with_kept text None ending = text
with_kept text (Some line) ending = with_line text line ending

-- a text with what becomes of these lines, of which the first is at a place, with their ends
abbrev pub text_from : (ℕ → ℕ) → List Edit → ℕ → List ℕ → List SourceLine → List (List ℕ) → List ℕ
text_from f all i text [] ends = text
text_from f all i text (l ∷ ls) [] = text
text_from f all i text (l ∷ ls) (e ∷ es) = text_from f all (i + 1) (with_kept text (kept f all i l) e) ls es

-- the new text of a source with these lines
abbrev pub new_text : (ℕ → ℕ) → List SourceLine → List ℕ → List ℕ
new_text f lines source = text_from f (edits_of lines) 0 [] lines (ends_of source)

-- ── lines that are too long ──
-- the number of a line, if a text in its place has more than 255 bytes
abbrev pub long_by : List ℕ → ℕ → Option ℕ
long_by line n = if nat_lt 255 (length line) then Some n else None

-- the number of a line that stands and becomes too long
abbrev pub too_long_by : (ℕ → ℕ) → List Edit → ℕ → SourceLine → Edit → Option ℕ
too_long_by f all place l Nothing = None
too_long_by f all place l (Sets n c) = if stands place n all then long_by (moved_line f n l) n else None
too_long_by f all place l (Deletes n) = None

-- the number of the line at a place, if it stands and becomes too long
abbrev pub too_long : (ℕ → ℕ) → List Edit → ℕ → SourceLine → Option ℕ
too_long f all place l = too_long_by f all place l (does l.edit)

-- what is found first
abbrev pub first_of : Option ℕ → Option ℕ → Option ℕ
first_of None rest = rest
first_of (Some n) rest = Some n

-- the first of these lines, of which the first is at a place, that becomes too long, by its old number
abbrev pub first_long_from : (ℕ → ℕ) → List Edit → ℕ → List SourceLine → Option ℕ
first_long_from f all i [] = None
first_long_from f all i (l ∷ ls) = first_of (too_long f all i l) (first_long_from f all (i + 1) ls)

-- the first line of a source that becomes too long
abbrev pub first_long : (ℕ → ℕ) → List SourceLine → Option ℕ
first_long f lines = first_long_from f (edits_of lines) 0 lines
