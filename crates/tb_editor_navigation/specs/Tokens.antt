-- What each token of a text is.
use Rattle.std.specs.Prelude.{ℕ, ◌+◌, ◌-◌, Bool, true, false, ◌&&◌, ◌==◌, nat_lt, List, [], ◌∷◌, ◌++◌, codes, length, Option, Some, None, option_map, if◌then◌else◌}
use Rattle.serde_json.specs.Data.{Data, array, item, member, no_items, no_members, number, object, string, unsigned}
use Rattle.serde_json.specs.View.{items_of}
use Rattle.tb_parser.specs.declared.lexer.Token.{Token}
use Rattle.tb_parser.specs.declared.lexer.TokenKind.{TokenKind}
use Rattle.tb_parser.specs.declared.lexer.TokenKind.TheVariants as token
use Rattle.tb_basic_places.specs.Spans.{piece, whole_span}
use Rattle.tb_basic_places.specs.declared.spans.Span.{Span}
use Rattle.tb_basic_names.specs.declared.lines.Line.{Line as SourceLine}
use Rattle.tb_editor_navigation.specs.declared.tokens.Kind.{Kind}
use Rattle.tb_editor_navigation.specs.declared.tokens.Kind.TheVariants.{Keyword, Variable, Number, Text, Comment, Operator, Function}
use Rattle.tb_editor_navigation.specs.declared.tokens.Mark.{Mark}

-- ── what is told of a token ──
-- the place of a kind in the legend
abbrev pub place_of : Kind → ℕ
place_of Keyword = 0
place_of Variable = 1
place_of Number = 2
place_of Text = 3
place_of Comment = 4
place_of Operator = 5
place_of Function = 6

-- the names of the kinds
abbrev pub kinds : Data
kinds =
    array (item (string (codes "keyword")) (item (string (codes "variable")) (item (string (codes "number")) (item (string (codes "string"))
    (item (string (codes "comment")) (item (string (codes "operator")) (item (string (codes "function")) no_items)))))))

-- what numbers of tokens mean
abbrev pub legend : Data
legend = object (member (codes "tokenModifiers") (array (item (string (codes "declaration")) no_items)) (member (codes "tokenTypes") kinds no_members))

-- as what a token is shown
abbrev pub kind_of : TokenKind → Option Kind
kind_of (token.Keyword k) = Some Keyword
kind_of token.Then = Some Keyword
kind_of token.Variable = Some Variable
kind_of token.Number = Some Number
kind_of token.Text = Some Text
kind_of token.Remark = Some Comment
kind_of token.Operator = Some Operator
kind_of token.Relation = Some Operator
kind_of token.Random = Some Function
kind_of token.Open = None
kind_of token.Close = None
kind_of token.Comma = None
kind_of token.Semicolon = None
kind_of token.Stray = None

-- a number
abbrev pub is_number : TokenKind → Bool
is_number token.Number = true
is_number _ = false

-- ── where tokens are ──
-- a token that is shown, by its place among those of its line: the first one declares the line if it is a number
abbrev pub mark_of : ℕ → List ℕ → ℕ → Token → Option Mark
mark_of file_line text index t =
    option_map (λ kind. record {
      span = piece file_line text (t.column - 1) (length t.text.now);
      kind = kind;
      declares = (index == 0) && is_number t.kind;
    }) (kind_of t.kind)

-- a list with one more at the front, if there is one
abbrev pub with_one : Option Mark → List Mark → List Mark
with_one None ms = ms
with_one (Some m) ms = m ∷ ms

-- those tokens of a line, of which the first has this place
abbrev pub marks_from : ℕ → List ℕ → ℕ → List Token → List Mark
marks_from file_line text i [] = []
marks_from file_line text i (t ∷ ts) = with_one (mark_of file_line text i t) (marks_from file_line text (i + 1) ts)

-- the tokens of a line that are shown, if the line is not too long
abbrev pub marks_on : ℕ → SourceLine → List Mark
marks_on file_line l = if nat_lt 255 (length l.text.now) then [] else marks_from file_line l.text.now 0 l.tokens.items

-- the tokens of lines that are shown, of which the first line is line n of the file
abbrev pub marks_in : ℕ → List SourceLine → List Mark
marks_in n [] = []
marks_in n (l ∷ ls) = marks_on n l ++ marks_in (n + 1) ls

-- the tokens of a source that are shown
abbrev pub marks_of : List SourceLine → List Mark
marks_of lines = marks_in 1 lines

-- ── their numbers ──
-- how far a token is from the beginning of the one before it, if that is on the same line, else from the line's
abbrev pub distance : Span → Span → ℕ
distance before span = if span.line == before.line then span.start - before.start else span.start

-- 1 for what declares a line
abbrev pub modifiers : Bool → ℕ
modifiers declares = if declares then 1 else 0

-- a number
abbrev pub told : ℕ → Data
told n = number (unsigned n)

-- the five numbers of a token: how many lines below the one before it, how far from that, its length, its kind, and what else it is
abbrev pub numbers_of : Span → Mark → List Data
numbers_of before m =
    told (m.span.line - before.line) ∷ told (distance before m.span) ∷ told (m.span.end - m.span.start) ∷ told (place_of m.kind) ∷ told (modifiers m.declares) ∷ []

-- the five numbers of each of these tokens, one token after the other
abbrev pub numbers_from : Span → List Mark → List Data
numbers_from before [] = []
numbers_from before (m ∷ ms) = numbers_of before m ++ numbers_from m.span ms

-- what each token of a source is
abbrev pub semantic_tokens : List SourceLine → Data
semantic_tokens lines = object (member (codes "data") (array (items_of (numbers_from whole_span (marks_of lines)))) no_members)
