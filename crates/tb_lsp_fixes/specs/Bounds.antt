-- RND with an even bound on a line, and what is better in its place.
use Rattle.std.specs.Prelude.{ℕ, ◌+◌, ◌-◌, ◌*◌, Bool, true, false, ◌&&◌, ◌==◌, List, [], ◌∷◌, ◌++◌, codes, flat_map, slice_get, Option, Some, None, if◌then◌else◌}
use Rattle.std.specs.Fmt.{decimal}
use Rattle.serde_json.specs.Data.{Data}
use Rattle.tb_basic_syntax.specs.Source.{Statement}
use Rattle.tb_basic_meaning.specs.Bounds.{statement_bounds}
use Rattle.tb_parser.specs.Readings.{Edit}
use Rattle.tb_parser.specs.declared.lexer.Token.{Token}
use Rattle.tb_parser.specs.declared.lexer.TokenKind.{TokenKind}
use Rattle.tb_parser.specs.declared.lexer.TokenKind.TheVariants as kind
use Rattle.tb_basic_places.specs.Spans.{between}
use Rattle.tb_engine_check.specs.Texts.{times_of}
use Rattle.tb_editor_values.specs.Edits.{edit_value}
use Rattle.tb_basic_names.specs.Lines.{does, statement_in}
use Rattle.tb_basic_names.specs.declared.lines.Line.{Line as SourceLine}
use Rattle.tb_lsp_fixes.specs.Mends.{Mends}

-- the bounds of RND in a line's statement, if it has one
abbrev pub bounds_by : Option Statement → List (Option ℕ)
bounds_by None = []
bounds_by (Some c) = statement_bounds c

-- the bounds of RND in what a line does
abbrev pub bounds_in : Edit → List (Option ℕ)
bounds_in e = bounds_by (statement_in e)

-- how many parentheses are open after a token
abbrev pub depth_after : ℕ → TokenKind → ℕ
depth_after depth kind.Open = depth + 1
depth_after depth kind.Close = depth - 1
depth_after depth _ = depth

-- a closing parenthesis
abbrev pub is_close : TokenKind → Bool
is_close kind.Close = true
is_close _ = false

-- RND
abbrev pub is_random : TokenKind → Bool
is_random kind.Random = true
is_random _ = false

-- the place behind the parenthesis that closes the outermost one, by how many are open
abbrev pub closing : ℕ → List Token → Option ℕ
closing depth [] = None
closing depth (t ∷ ts) = if (depth == 1) && is_close t.kind then Some t.column else closing (depth_after depth t.kind) ts

-- whether a bound that was found is this one
abbrev pub is_bound : Option (Option ℕ) → ℕ → Bool
is_bound (Some (Some n)) bound = n == bound
is_bound _ bound = false

-- a text from one place of a line to another, if there is one
abbrev pub edit_to : ℕ → List ℕ → ℕ → Option ℕ → List ℕ → List Data
edit_to file_line text start None better = []
edit_to file_line text start (Some end) better = edit_value (between file_line text start end) better ∷ []

-- a text in place of an RND, if its bound is the one that is sought
abbrev pub edit_at : Bool → ℕ → List ℕ → Token → List Token → List ℕ → List Data
edit_at is_sought file_line text t ts better = if is_sought then edit_to file_line text (t.column - 1) (closing 0 ts) better else []

-- whether a token is RND with the bound that is sought, after so many others of the line
abbrev pub is_sought : List (Option ℕ) → ℕ → ℕ → TokenKind → Bool
is_sought bounds count bound k = is_random k && is_bound (slice_get bounds count) bound

-- how many RND there are up to a token
abbrev pub count_after : ℕ → TokenKind → ℕ
count_after count k = if is_random k then count + 1 else count

-- a text in place of each RND among tokens whose bound is the one that is sought, after so many others of the line
abbrev pub edits_from : ℕ → List ℕ → List (Option ℕ) → ℕ → ℕ → List ℕ → List Token → List Data
edits_from file_line text bounds bound count better [] = []
edits_from file_line text bounds bound count better (t ∷ ts) =
    edit_at (is_sought bounds count bound t.kind) file_line text t ts better
    ++ edits_from file_line text bounds bound (count_after count t.kind) better ts

-- a text in place of each RND of a line whose bound is the one that is sought: the words RND and the bounds of the
-- line's statement have the same order
abbrev pub edits_of : ℕ → SourceLine → ℕ → List ℕ → List Data
edits_of file_line l bound better = edits_from file_line l.text.now (bounds_in (does l.edit)) bound 0 better l.tokens.items

-- what is better than RND with an even bound
abbrev pub better_than : ℕ → List ℕ
better_than bound = codes "(RND(" ++ (decimal (times_of bound * bound) ++ (codes ")/" ++ (decimal (times_of bound) ++ codes ")")))

-- the fix of a bound on a line
abbrev pub better_bound : ℕ → Option SourceLine → ℕ → Option Mends
better_bound file_line None bound = None
better_bound file_line (Some l) bound = Some (record { title = codes "Write " ++ better_than bound; edits = edits_of file_line l bound (better_than bound) })
