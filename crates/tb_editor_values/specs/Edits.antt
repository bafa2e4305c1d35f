-- Edits of a text as JSON values.
use Rattle.std.specs.Prelude.{ℕ, List, codes}
use Rattle.serde_json.specs.Data.{Data, array, member, no_members, number, object, string, unsigned}
use Rattle.serde_json.specs.View.{items_of}
use Rattle.tb_editor_values.specs.Ranges.{place_of, range_of}
use Rattle.tb_basic_places.specs.declared.spans.Span.{Span}

-- a text in place of a span
abbrev pub edit_value : Span → List ℕ → Data
edit_value span text = object (member (codes "newText") (string text) (member (codes "range") (range_of span) no_members))

-- the beginning of a line
abbrev pub line_start : ℕ → Data
line_start line = place_of line 0

-- the lines from one to before another
abbrev pub lines_range : ℕ → ℕ → Data
lines_range from to = object (member (codes "end") (line_start to) (member (codes "start") (line_start from) no_members))

-- a text in place of lines
abbrev pub lines_edit : ℕ → ℕ → List ℕ → Data
lines_edit from to text = object (member (codes "newText") (string text) (member (codes "range") (lines_range from to) no_members))

-- the edits of a text
abbrev pub changes : List ℕ → List Data → Data
changes uri edits = object (member (codes "changes") (object (member uri (array (items_of edits)) no_members)) no_members)
