-- Fixes that write a text in place of another.
use Rattle.std.specs.Prelude.{ℕ, min, List, [], ◌∷◌, drop, length, map, string_bytes, Option, Some}
use Rattle.serde_json.specs.Data.{Data}
use Rattle.serde_json.specs.View.{view}
use Rattle.tb_basic_places.specs.declared.spans.Span.{Span}
use Rattle.tb_editor_values.specs.Edits.{edit_value}
use Rattle.tb_lsp_fixes.specs.Mends.{Mends}
use Rattle.tb_lsp_fixes.specs.declared.fixes.Fix.{Fix}

-- a fix that is answered
abbrev pub seen : Fix → Mends
seen fix = record { title = string_bytes fix.title; edits = map view fix.edits.items }

-- one edit
abbrev pub fix_by : List ℕ → Data → Option Mends
fix_by title edit = Some (record { title = title; edits = edit ∷ [] })

-- a text in place of a span
abbrev pub writes : List ℕ → Span → List ℕ → Option Mends
writes title span text = fix_by title (edit_value span text)

-- a text without its first byte
abbrev pub rest_of : List ℕ → List ℕ
rest_of [] = []
rest_of (b ∷ text) = text

-- what follows the byte at a place
abbrev pub behind : ℕ → List ℕ → List ℕ
behind place text = rest_of (drop (min place (length text)) text)
