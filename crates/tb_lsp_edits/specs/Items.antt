-- The items of a completion.
use Rattle.std.specs.Prelude.{ℕ, ◌≡◌, ◌-◌, ◌^◌, Bool, true, false, nat_lt, List, [], codes, length, map, slice_get, take, Option, Some, None}
use Rattle.std.specs.Fmt.{decimal, format_spec, padded_integral}
use Rattle.serde_json.specs.Data.{Data, array, boolean, member, no_members, number, object, string, unsigned}
use Rattle.serde_json.specs.View.{items_of}
use Rattle.tb_basic_places.specs.Columns.{place_at, units_of}
use Rattle.tb_basic_places.specs.declared.spans.Span.{Span}
use Rattle.tb_editor_values.specs.Edits.{edit_value}
use Rattle.tb_basic_text.specs.declared.notation.Notation.{Notation}
use Rattle.tb_basic_names.specs.declared.lines.Line.{Line as SourceLine}
use Rattle.tb_lsp_edits.specs.Candidates.{candidates, spelling, written}
use Rattle.tb_lsp_edits.specs.Offered.{Offers}
use Rattle.tb_lsp_edits.specs.Typed.{IsTyped}
use Rattle.tb_lsp_edits.specs.declared.candidates.Candidate.{Candidate}
use Rattle.tb_lsp_edits.specs.declared.candidates.Candidate.TheVariants as candidate
use Rattle.tb_lsp_edits.specs.declared.candidates.Word.{Word}
use Rattle.tb_lsp_edits.specs.declared.typed.Typed.{Typed}

-- a word in place of a span
abbrev pub word_value : Span → Word → Data
word_value span w =
    object (member (codes "kind") (number (unsigned 14)) (member (codes "label") (string (spelling w)) (member (codes "textEdit") (edit_value span (written w)) no_members)))

-- the five digits by which numbers are sorted, as `{:05}` writes them
abbrev pub sort_text : ℕ → List ℕ
sort_text n = padded_integral (format_spec 32 0 4 5 (2 ^ 64 - 1)) false [] (decimal n)

-- the number of a line in place of a span
abbrev pub number_value : Span → ℕ → Data
number_value span n =
    object (member (codes "kind") (number (unsigned 18)) (member (codes "label") (string (decimal n)) (member (codes "sortText") (string (sort_text n))
    (member (codes "textEdit") (edit_value span (decimal n)) no_members))))

-- a candidate in place of a span
abbrev pub item_value : Span → Candidate → Data
item_value span (candidate.Word w) = word_value span w
item_value span (candidate.Number n) = number_value span n

-- candidates in place of a span
abbrev pub items_in : Span → List Candidate → List Data
items_in span found = map (item_value span) found

-- what is typed of a line, from the beginning of the word or the number
abbrev pub span_of : ℕ → List ℕ → Typed → Span
span_of line before t = record { line = line; start = units_of t.base.now; end = units_of before }

-- the text of a line, if there is one
abbrev pub text_of : Option SourceLine → List ℕ
text_of None = []
text_of (Some l) = l.text.now

-- a line of a source, from 0; behind the last one a line is empty
abbrev pub line_at : ℕ → List SourceLine → List ℕ
line_at line lines = text_of (slice_get lines line)

-- what is offered behind the beginning of a line, in place of what is typed
abbrev pub AreOffered : Notation → List SourceLine → ℕ → List ℕ → List Data → Type 0
AreOffered notation lines line before items =
    (t : Typed) × IsTyped before t × ((found : List Candidate) × Offers notation t (candidates lines) found × (items ≡ items_in (span_of line before t) found))

-- what is offered behind the beginning of a line, by whether the place is beyond the longest line
abbrev pub AreItemsBy : Bool → Notation → List SourceLine → ℕ → List ℕ → List Data → Type 0
AreItemsBy true notation lines line before items = items ≡ []
AreItemsBy false notation lines line before items = AreOffered notation lines line before items

-- the items behind the beginning of a line
abbrev pub AreItems : Notation → List SourceLine → ℕ → List ℕ → List Data → Type 0
AreItems notation lines line before items = AreItemsBy (nat_lt 255 (length before)) notation lines line before items

-- a list of items, which is all of them
abbrev pub list_of : List Data → Data
list_of items = object (member (codes "isIncomplete") (boolean false) (member (codes "items") (array (items_of items)) no_members))

-- what is typed of a line before a column
abbrev pub before_of : ℕ → List ℕ → List ℕ
before_of character text = take (place_at character text) text

-- what may be written at a place of a source that is read in a notation
abbrev pub Completes : Notation → List SourceLine → ℕ → ℕ → Data → Type 0
Completes notation lines line character v =
    (items : List Data) × AreItems notation lines line (before_of character (line_at line lines)) items × (v ≡ list_of items)
