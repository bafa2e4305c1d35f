-- The bad lines that were found so far, and what the first one is.
use Rattle.std.proofs.Common.{◌≡◌, ℕ, ◌+◌, List, [], ◌∷◌, ◌++◌, Some, Ok, Err, subst, append_assoc, append-nil}
use Rattle.tb_basic_syntax.specs.Source.{Program}
use Rattle.tb_parser.specs.declared.errors.LineFault.{LineFault}
use Rattle.tb_parser.specs.declared.errors.SourceError.{SourceError}
use Rattle.tb_parser.specs.Answers.{refusal_of}
use Rattle.tb_basic_text.specs.declared.notation.Notation.{Notation}
use Rattle.tb_parser.specs.Files.{LinesIn, edited, end as lines_end, bad as lines_bad, good as lines_good, at_end, refused_at}
use Rattle.tb_basic_text.specs.Lines.{lines_from, lines_of_file}
use Rattle.tb_parser.specs.Readings.{Edit, LineIn, Refusal}
use Rattle.tb_engine_findings.specs.BadLines.{BadLinesAre, none, good, bad, FirstIs}

-- of a program that the lines before made
FirstOf : Notation → ℕ → Program → List (List ℕ) → List SourceError → Type 0
FirstOf notation n p lines [] = (q : Program) × LinesIn notation n p lines (at_end q)
FirstOf notation n p lines (e ∷ found) = (r : Refusal) × (refusal_of e.kind e.column ≡ Some r) × LinesIn notation n p lines (Err (refused_at e.line r))

past_good : (notation : Notation) (n : ℕ) (p : Program) (line : List ℕ) (lines : List (List ℕ)) (found : List SourceError) (edit : Edit) → LineIn notation line (Ok edit)
    → FirstOf notation (n + 1) (edited edit p) lines found → FirstOf notation n p (line ∷ lines) found
unfolding FirstOf
past_good notation n p line lines [] edit is h = (h.0, lines_good n p line lines edit (at_end h.0) is h.1)
past_good notation n p line lines (e ∷ found) edit is h = (h.0, h.1, lines_good n p line lines edit (Err (refused_at e.line h.0)) is h.2)

first_of : (notation : Notation) (n : ℕ) (p : Program) (lines : List (List ℕ)) (found : List SourceError) → BadLinesAre notation n lines found → FirstOf notation n p lines found
unfolding FirstOf
first_of notation n p lines found (none m) = (p, lines_end m p)
first_of notation n p lines found (good m line ls fs edit is more) = past_good notation m p line ls fs edit is (first_of notation (m + 1) (edited edit p) ls fs more)
first_of notation n p lines found (bad line ls fs e r is says more) = (r, says, lines_bad e.line p line ls r is)

-- the clause `first` of `bad_lines`: what the first bad line is to the file
pub first_is : (notation : Notation) (source : List ℕ) (found : List SourceError) → BadLinesAre notation 1 (lines_of_file source) found → FirstIs notation source found
unfolding FirstOf
first_is notation source [] h = first_of notation 1 [] (lines_of_file source) [] h
first_is notation source (e ∷ found) h = first_of notation 1 [] (lines_of_file source) (e ∷ found) h

-- what was found so far, if the lines from n on are left
abbrev pub FoundTo : Notation → List ℕ → List SourceError → ℕ → List ℕ → Type 0
FoundTo notation source found n rest = (more : List SourceError) → BadLinesAre notation n (lines_of_file rest) more → BadLinesAre notation 1 (lines_of_file source) (found ++ more)

-- the reading loop at a good line: nothing more is found
pub past_good_line : (notation : Notation) (source : List ℕ) (found : List SourceError) (n : ℕ) (rest line after : List ℕ) (edit : Edit)
    → lines_of_file rest ≡ line ∷ lines_of_file after → LineIn notation line (Ok edit) → FoundTo notation source found n rest → FoundTo notation source found (n + 1) after
past_good_line notation source found n rest line after edit first is h more are = h more (rw first (good n line (lines_of_file after) more edit is are))

-- the reading loop at a bad line: its fault is found
pub past_bad_line : (notation : Notation) (source : List ℕ) (found : List SourceError) (n : ℕ) (rest line after : List ℕ) (fault : LineFault) (r : Refusal)
    → lines_of_file rest ≡ line ∷ lines_of_file after → LineIn notation line (Err r) → refusal_of fault.kind fault.column ≡ Some r → FoundTo notation source found n rest
    → FoundTo notation source (found ++ record { kind = fault.kind; line = n; column = fault.column } ∷ []) (n + 1) after
past_bad_line notation source found n rest line after fault r first is says h more are =
    let e : SourceError = record { kind = fault.kind; line = n; column = fault.column } in
    rw (append_assoc found (e ∷ []) more) (h (e ∷ more) (rw first (bad line (lines_of_file after) more e r is says are)))

-- the end of the reading loop: all bad lines are found
pub no_line : (notation : Notation) (source : List ℕ) (found : List SourceError) (n : ℕ) (rest : List ℕ) → rest ≡ [] → FoundTo notation source found n rest
    → BadLinesAre notation 1 (lines_of_file source) found
unfolding lines_from
no_line notation source found n rest e h = subst (BadLinesAre notation 1 (lines_of_file source)) (append-nil found) (h [] (rw e (none n)))
