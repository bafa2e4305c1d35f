-- What is shown at a place.
use Rattle.std.specs.Prelude.{ℕ, ◌≡◌, ◌+◌, ◌-◌, Bool, true, false, not, ◌&&◌, ◌||◌, ◌==◌, List, [], ◌∷◌, ◌++◌, codes, length, slice_get, Option, Some, None, option_map, if◌then◌else◌}
use Rattle.serde_json.specs.Data.{Data, member, no_members, null, object, string}
use Rattle.tb_basic_places.specs.Spans.{piece}
use Rattle.tb_basic_places.specs.declared.spans.Span.{Span}
use Rattle.tb_editor_values.specs.Ranges.{range_of}
use Rattle.tb_basic_text.specs.declared.notation.Notation.{Notation}
use Rattle.tb_basic_names.specs.Lines.{does}
use Rattle.tb_basic_names.specs.Sources.{edits_of, standing, stands}
use Rattle.tb_basic_names.specs.Touched.{touched_at}
use Rattle.tb_basic_names.specs.Variables.{variables_of}
use Rattle.tb_basic_names.specs.declared.lines.Line.{Line as SourceLine}
use Rattle.tb_basic_names.specs.declared.variables.Variable.{Variable as SourceVariable}
use Rattle.tb_editor_navigation.specs.Remarks.{shown}
use Rattle.tb_editor_navigation.specs.Symbols.{standing_number}
use Rattle.tb_lsp_hover.specs.About.{about}
use Rattle.tb_lsp_hover.specs.Numbers.{NumbersAre}
use Rattle.tb_lsp_hover.specs.Texts.{missing_text, number_text, own_text, variable_text}
use Rattle.tb_lsp_hover.specs.Words.{help_of}
use Rattle.tb_lsp_hover.specs.declared.tokens.About.{About}
use Rattle.tb_lsp_hover.specs.declared.tokens.About.TheVariants.{Own as OwnLine, Target, Number, Variable, Word}
use Rattle.tb_lsp_hover.specs.declared.numbers.LineNumbers.{LineNumbers}
use Rattle.tb_compiled.specs.Promise.{Own}

-- ── a line ──
-- the numbers of a line, if it stands
abbrev pub OwnNumbers : Own → Bool → Notation → List ℕ → ℕ → Option LineNumbers → Type 0
OwnNumbers own true notation text n found = NumbersAre own notation text n found
OwnNumbers own false notation text n found = found ≡ None

-- at the number that begins the line at a place
abbrev pub ShowsOwn : Own → Notation → List ℕ → List SourceLine → ℕ → ℕ → List ℕ → Type 0
ShowsOwn own notation text lines place n value =
    (found : Option LineNumbers) × OwnNumbers own (stands place n (edits_of lines)) notation text n found × (value ≡ own_text n found)

-- a line as it was written
abbrev pub line_text : ℕ → Option SourceLine → List ℕ
line_text target None = missing_text target
line_text target (Some l) = shown l.text.now

-- the line at a place, if one stands
abbrev pub placed_text : List SourceLine → ℕ → Option ℕ → List ℕ
placed_text lines target None = missing_text target
placed_text lines target (Some place) = line_text target (slice_get lines place)

-- at the target of a jump
abbrev pub target_text : List SourceLine → ℕ → List ℕ
target_text lines target = placed_text lines target (standing target (edits_of lines))

-- ── a variable ──
-- whether something is so, or not, as it is wanted
abbrev pub is_so : Bool → Bool → Bool
is_so is wanted = if wanted then is else not is

-- whether one of these is the variable of a letter, and gets a value or not
abbrev pub has_variable : ℕ → Bool → List SourceVariable → Bool
has_variable name gets [] = false
has_variable name gets (v ∷ vs) = ((v.name == name) && is_so v.gets gets) || has_variable name gets vs

-- the number of a line with these variables, if it stands and has that variable
abbrev pub using_by : ℕ → Bool → List SourceVariable → Option ℕ → List ℕ
using_by name gets vs None = []
using_by name gets vs (Some n) = if has_variable name gets vs then n ∷ [] else []

-- the number of the line at a place, if it stands and has that variable
abbrev pub using_at : List SourceLine → ℕ → Bool → ℕ → SourceLine → List ℕ
using_at all name gets place l = using_by name gets (variables_of l.tokens.items) (standing_number (edits_of all) place (does l.edit))

-- the numbers of the lines that stand and have that variable, of these lines, of which the first is at place i
abbrev pub using_from : List SourceLine → ℕ → Bool → ℕ → List SourceLine → List ℕ
using_from all name gets i [] = []
using_from all name gets i (l ∷ ls) = using_at all name gets i l ++ using_from all name gets (i + 1) ls

-- the lines that stand and set a variable, or read it, by place
abbrev pub using : ℕ → Bool → List SourceLine → List ℕ
using name gets lines = using_from lines name gets 0 lines

-- at a variable
abbrev pub variable : List SourceLine → ℕ → List ℕ
variable lines name = variable_text name (using name true lines) (using name false lines)

-- ── a place ──
-- what is shown of something in the line at a place
abbrev pub Shows : Own → Notation → List ℕ → List SourceLine → ℕ → About → List ℕ → Type 0
Shows own notation text lines place (OwnLine n) value = ShowsOwn own notation text lines place n value
Shows own notation text lines place (Target n) value = value ≡ target_text lines n
Shows own notation text lines place (Number n) value = value ≡ number_text n
Shows own notation text lines place (Variable name) value = value ≡ variable lines name
Shows own notation text lines place (Word kind) value = value ≡ help_of kind

-- a text
abbrev pub contents : List ℕ → Data
contents text = object (member (codes "kind") (string (codes "plaintext")) (member (codes "value") (string text) no_members))

-- where a token of a line of the file is, which is counted from 1
abbrev pub token_span : ℕ → SourceLine → ℕ → Option Span
token_span file_line l index = option_map (λ t. piece file_line l.text.now (t.column - 1) (length t.text.now)) (slice_get l.tokens.items index)

-- a text at a span
abbrev pub shown_value : Option Span → List ℕ → Data
shown_value None text = null
shown_value (Some span) text = object (member (codes "contents") (contents text) (member (codes "range") (range_of span) no_members))

-- what is shown at a token of the line at a place
abbrev pub ShowsToken : Own → Notation → List ℕ → List SourceLine → ℕ → SourceLine → ℕ → Option About → Data → Type 0
ShowsToken own notation text lines place l index None v = v ≡ null
ShowsToken own notation text lines place l index (Some a) v =
    (value : List ℕ) × Shows own notation text lines place a value × (v ≡ shown_value (token_span (place + 1) l index) value)

-- what is shown at a token of the line at a place, if there is that line
abbrev pub ShowsLine : Own → Notation → List ℕ → List SourceLine → ℕ → ℕ → Option SourceLine → Data → Type 0
ShowsLine own notation text lines place index None v = v ≡ null
ShowsLine own notation text lines place index (Some l) v = ShowsToken own notation text lines place l index (about (does l.edit) l.tokens.items index) v

-- what is shown at the token that is touched in the line at a place, if one is
abbrev pub ShowsTouched : Own → Notation → List ℕ → List SourceLine → ℕ → Option ℕ → Data → Type 0
ShowsTouched own notation text lines place None v = v ≡ null
ShowsTouched own notation text lines place (Some index) v = ShowsLine own notation text lines place index (slice_get lines place) v

-- what is shown at a place of a text with these lines, which are read in a notation
abbrev pub Hovers : Own → Notation → List ℕ → List SourceLine → ℕ → ℕ → Data → Type 0
Hovers own notation text lines line character v = ShowsTouched own notation text lines line (touched_at line character lines) v
