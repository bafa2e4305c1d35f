-- The lines of a file that have a number, and those of them that are too deep.
use Rattle.std.specs.Prelude.{◌≡◌, ◌⊎◌, ℕ, ◌+◌, nat_lt, Bool, false, not, ◌&&◌, ◌==◌, if◌then◌else◌, List, []}
use Rattle.std.specs.Prelude.{◌∷◌, ◌++◌, map, Option, Some, None, is_none, Ok, Err}
use Rattle.std.specs.List.{list_any}
use Rattle.tb_basic_syntax.specs.Source.{Statement}
use Rattle.tb_basic_meaning.specs.Need.{statement_need}
use Rattle.tb_basic_text.specs.declared.notation.Notation.{Notation}
use Rattle.tb_basic_text.specs.Lines.{lines_of_file}
use Rattle.tb_parser.specs.Readings.{Edit, LineIn, Refusal, Nothing, Sets, Deletes}
use Rattle.tb_engine_findings.specs.declared.lines.NumberedLine.{NumberedLine}

-- a line with a number: which line of the file it is, its number, and its statement, None if the number is bare
pub record Entry : Type 0 where
  pub line : ℕ
  pub number : ℕ
  pub states : Option Statement

-- an entry without its statement
abbrev pub numbered_of : Entry → NumberedLine
numbered_of e = record { line = e.line; number = e.number; is_bare = is_none e.states }

-- the entry of line n of a file, by what the line does
abbrev pub entry_by : ℕ → Edit → Option Entry
entry_by n Nothing = None
entry_by n (Sets number c) = Some (record { line = n; number = number; states = Some c })
entry_by n (Deletes number) = Some (record { line = n; number = number; states = None })

-- a line's number and its statement; None if it has no number or is bad
abbrev pub IsEntry : Notation → List ℕ → Option (ℕ × Option Statement) → Type 0
IsEntry notation line None = LineIn notation line (Ok Nothing) ⊎ ((r : Refusal) × LineIn notation line (Err r))
IsEntry notation line (Some (number, Some c)) = LineIn notation line (Ok (Sets number c))
IsEntry notation line (Some (number, None)) = LineIn notation line (Ok (Deletes number))

-- the entries of lines of which the first is line n of the file
pub data EntriesAre (notation : Notation) : ℕ → List (List ℕ) → List Entry → Type 0 where
  none : (n : ℕ) → EntriesAre notation n [] []
  left_out : (n : ℕ) (line : List ℕ) (lines : List (List ℕ)) (es : List Entry) → IsEntry notation line None → EntriesAre notation (n + 1) lines es
      → EntriesAre notation n (line ∷ lines) es
  entered : (line : List ℕ) (lines : List (List ℕ)) (es : List Entry) (e : Entry)
      → IsEntry notation line (Some (e.number, e.states)) → EntriesAre notation (e.line + 1) lines es → EntriesAre notation e.line (line ∷ lines) (e ∷ es)

-- ── lines that are too deep ──
-- whether a statement needs more than 16 slots
abbrev pub is_deep : Option Statement → Bool
is_deep None = false
is_deep (Some c) = nat_lt 16 (statement_need c)

-- whether a number is one of these
abbrev pub is_one_of : ℕ → List ℕ → Bool
is_one_of n ns = list_any (λ m. m == n) ns

-- a line, if it is too deep and no line after it has its number
abbrev pub deep_here : Entry → List Entry → List ℕ
deep_here e es = if is_deep e.states && not (is_one_of e.number (map (λ e. e.number) es)) then e.line ∷ [] else []

-- all such lines, in the order of the file
abbrev pub deep_of : List Entry → List ℕ
deep_of [] = []
deep_of (e ∷ es) = deep_here e es ++ deep_of es

-- the lines of a file that are too deep and that no later line replaces or takes out
abbrev pub DeepLinesAre : Notation → List ℕ → List ℕ → Type 0
DeepLinesAre notation source deep = (es : List Entry) × EntriesAre notation 1 (lines_of_file source) es × (deep ≡ deep_of es)
