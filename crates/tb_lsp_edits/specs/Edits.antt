-- The edits that make a text tidy.
use Rattle.std.specs.Prelude.{ℕ, ◌≡◌, ◌+◌, false, List, [], ◌∷◌, ◌++◌, length, Option, Some, None, if◌then◌else◌}
use Rattle.std.specs.Str.{bytes_eq, is_utf8}
use Rattle.serde_json.specs.Data.{Data, array}
use Rattle.serde_json.specs.View.{items_of}
use Rattle.tb_basic_places.specs.Spans.{between}
use Rattle.tb_basic_text.specs.declared.notation.Notation.{Notation}
use Rattle.tb_basic_text.specs.Lines.{lines_of_file}
use Rattle.tb_basic_format.specs.Texts.{IsTidyText, said}
use Rattle.tb_editor_values.specs.Edits.{edit_value}

-- a text in place of a line, which is counted from 1
abbrev pub edit_of : ℕ → List ℕ → List ℕ → Data
edit_of n line text = edit_value (between n line 0 (length line)) text

-- a text that is UTF-8, as each line of a text is
abbrev pub readable : List ℕ → Option (List ℕ)
readable text = if is_utf8 text then Some text else None

-- what is written in place of a line, if that is another one
abbrev pub written : List ℕ → List ℕ → Option (List ℕ)
written line new = if bytes_eq line new then None else readable new

-- a text in place of a line, if there is one
abbrev pub edit_by : ℕ → List ℕ → Option (List ℕ) → List Data
edit_by n line None = []
edit_by n line (Some text) = edit_of n line text ∷ []

-- the edit of a line, if another one takes its place
abbrev pub line_edit : ℕ → List ℕ → List ℕ → List Data
line_edit n line new = edit_by n line (written line new)

-- the edits that make lines others, of which the first is line n of the file
abbrev pub line_edits : ℕ → List (List ℕ) → List (List ℕ) → List Data
line_edits n [] news = []
line_edits n (line ∷ lines) [] = []
line_edits n (line ∷ lines) (new ∷ news) = line_edit n line new ++ line_edits (n + 1) lines news

-- those that make the lines of a text those of another
abbrev pub text_edits : List ℕ → List ℕ → List Data
text_edits source tidy = line_edits 1 (lines_of_file source) (lines_of_file tidy)

-- the edits to the tidy text of a source in a notation, each of whose lines says the same
pub record AreTidying (notation : Notation) (source made : List ℕ) (v : Data) : Type 0 where
  pub tidy : IsTidyText notation false source made
  pub same : said notation made ≡ said notation source
  pub edits : v ≡ array (items_of (text_edits source made))

-- the edits that make a source tidy
abbrev pub Tidies : Notation → List ℕ → Data → Type 0
Tidies notation source v = (made : List ℕ) × AreTidying notation source made v
