-- What requests ask of texts, by their methods and params.
use Rattle.std.specs.Prelude.{ℕ, Bool, true, false, ◌||◌, List, codes, Option, Some, None, option_and_then, option_map, unwrap_or, if◌then◌else◌}
use Rattle.std.specs.Str.{bytes_eq}
use Rattle.serde_json.specs.Data.{Data, Items, item, no_items}
use Rattle.serde_json.specs.Find.{as_array, as_bool, as_str, get}
use Rattle.tb_editor_values.specs.Asked.{lines_of_range, place_in}
use Rattle.tb_editor_values.specs.declared.places.Place.{Place}
use Rattle.tb_lsp_edits.specs.Renamed.{letter_of}
use Rattle.tb_lsp_fixes.specs.declared.offers.LineRange.{LineRange}
use Rattle.tb_lsp_answers.specs.declared.requests.Request.{Request}
use Rattle.tb_lsp_answers.specs.declared.requests.Request.TheVariants.{Hover, Definition, References, Highlights, Symbols, Actions, Formatting, Completion, Prepare, Rename, Folds, Tokens, Unfit}

-- whether references are to have the declaration with them
abbrev pub with_declaration : Data → Option Bool
with_declaration d = option_and_then (λ context. option_and_then as_bool (get (codes "includeDeclaration") context)) (get (codes "context") d)

-- references to what a place names
abbrev pub references : Data → Option Request
references d = option_and_then (λ place. option_map (λ declared. References place declared) (with_declaration d)) (place_in d)

-- whether a text names fixes, or all actions
abbrev pub names_fixes : Option (List ℕ) → Bool
names_fixes None = false
names_fixes (Some kind) = bytes_eq kind (codes "quickfix") || bytes_eq kind (codes "")

-- whether a kind of actions has fixes among them
abbrev pub is_quick_fix : Data → Bool
is_quick_fix d = names_fixes (as_str d)

-- whether one of these has
abbrev pub has_quick_fix : Items → Bool
has_quick_fix no_items = false
has_quick_fix (item d ds) = is_quick_fix d || has_quick_fix ds

-- whether fixes are asked for: where no kinds are named, or one of them has fixes
abbrev pub wants_fixes : Option Data → Option Bool
wants_fixes None = Some true
wants_fixes (Some only) = option_map has_quick_fix (as_array only)

-- the lines whose fixes are asked for
abbrev pub range_of : (ℕ × ℕ) → Bool → Option LineRange
range_of lines wants = if wants then Some (record { first = lines.0; last = lines.1 }) else None

-- the fixes on lines
abbrev pub actions : Data → Option Request
actions d =
    option_and_then (λ lines. option_and_then (λ context. option_map (λ wants. Actions (range_of lines wants)) (wants_fixes (get (codes "only") context)))
    (get (codes "context") d)) (lines_of_range d)

-- a new name for the variable at a place
abbrev pub renaming : Data → Option Request
renaming d =
    option_and_then (λ place. option_and_then (λ name. option_map (λ text. Rename place (letter_of text)) (as_str name)) (get (codes "newName") d)) (place_in d)

-- what is asked at the place that params name
abbrev pub at_place : (Place → Request) → Data → Option Request
at_place asks d = option_map asks (place_in d)

-- what a request asks whose method is known, if its params have the form of that
abbrev pub known : Option Request → Option Request
known asked = Some (unwrap_or asked Unfit)

-- what a request asks by its method and its params
abbrev pub request_of : List ℕ → Data → Option Request
request_of name d =
    if bytes_eq name (codes "textDocument/hover") then known (at_place (λ place. Hover place) d)
    else if bytes_eq name (codes "textDocument/definition") then known (at_place (λ place. Definition place) d)
    else if bytes_eq name (codes "textDocument/references") then known (references d)
    else if bytes_eq name (codes "textDocument/documentHighlight") then known (at_place (λ place. Highlights place) d)
    else if bytes_eq name (codes "textDocument/documentSymbol") then Some Symbols
    else if bytes_eq name (codes "textDocument/codeAction") then known (actions d)
    else if bytes_eq name (codes "textDocument/formatting") then Some Formatting
    else if bytes_eq name (codes "textDocument/completion") then known (at_place (λ place. Completion place) d)
    else if bytes_eq name (codes "textDocument/prepareRename") then known (at_place (λ place. Prepare place) d)
    else if bytes_eq name (codes "textDocument/rename") then known (renaming d)
    else if bytes_eq name (codes "textDocument/foldingRange") then Some Folds
    else if bytes_eq name (codes "textDocument/semanticTokens/full") then Some Tokens
    else None
