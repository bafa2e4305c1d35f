-- What the lines of a file make, if none is bad.
use Rattle.std.proofs.Common.{◌≡◌, ◌≢◌, ℕ, ◌+◌, ◌<◌, List, [], ◌∷◌, Some, None, Option, Ok, Err, refl, subst, inl, inr}
use Rattle.tb_basic_syntax.specs.Source.{Program, Statement}
use Rattle.tb_basic_syntax.specs.PlainData.{lines_of}
use Rattle.tb_basic_syntax.specs.declared.statements.Statement.{Statement as RustStatement}
use Rattle.tb_basic_meaning.specs.Cost.{cost}
use Rattle.tb_basic_text.specs.declared.notation.Notation.{Notation}
use Rattle.tb_parser.specs.Files.{LinesIn, at_end, edited, end, good}
use Rattle.tb_basic_text.specs.Lines.{lines_of_file}
use Rattle.tb_parser.specs.Readings.{Edit, LineIn, Nothing, Sets, Deletes}
use Rattle.tb_parser.proofs.Rising.{lines_rise}
use Rattle.tb_parser.proofs.Texts.{lines_stated}
use Rattle.tb_parser.proofs.Unique.{line_one, ok_err}
use Rattle.tb_compiled.specs.Answers.{SourceMakes}
use Rattle.tb_compiled.proofs.SmallPrograms.{are_small, cost_small}
use Rattle.tb_engine_findings.specs.BadLines.{BadLinesAre, none as no_bad, good as good_line}
use Rattle.tb_engine_findings.specs.Entries.{Entry, EntriesAre, IsEntry, none, left_out, entered}
use Rattle.tb_engine_findings.specs.Lines.{AreRead, with_entries, with_entry}
use Rattle.tb_engine_findings.specs.declared.lines.SourceLines.{SourceLines}

record Does (notation : Notation) (line : List ℕ) (number : ℕ) (states : Option Statement) : Type 0 where
  edit : Edit
  is : LineIn notation line (Ok edit)
  same : (p : Program) → edited edit p ≡ with_entry states number p

does : (notation : Notation) (line : List ℕ) (number : ℕ) (states : Option Statement) → IsEntry notation line (Some (number, states))
    → Does notation line number states
does notation line number (Some c) is = record { edit = Sets number c; is = is; same = λ p. refl }
does notation line number None is = record { edit = Deletes number; is = is; same = λ p. refl }

good_lines : {notation : Notation} (n : ℕ) (p : Program) (lines : List (List ℕ)) (es : List Entry) → BadLinesAre notation n lines []
    → EntriesAre notation n lines es → LinesIn notation n p lines (at_end (with_entries es p))
good_lines n p _ _ (no_bad _) (none _) = end n p
good_lines n p _ _ (good_line _ line lines _ edit is more) (left_out _ _ _ es (inl nothing) rest) =
    good n p line lines Nothing (at_end (with_entries es p)) nothing (good_lines (n + 1) p lines es more rest)
good_lines n p _ _ (good_line _ line lines _ edit is more) (left_out _ _ _ es (inr bad) rest) =
    absurd (ok_err edit bad.0 (line_one line (Ok edit) (Err bad.0) is bad.1))
good_lines {notation} _ p _ _ (good_line _ line lines _ edit is more) (entered _ _ es e has rest) =
    let d = does notation line e.number e.states has in
    good e.line p line lines d.edit (at_end (with_entries es (with_entry e.states e.number p))) d.is
    (rw (d.same p) (good_lines (e.line + 1) (with_entry e.states e.number p) lines es more rest))

-- the program of a file without bad lines is what its lines make
pub made : (notation : Notation) (source : List ℕ) (lines : SourceLines) → AreRead notation source lines → lines.bad.items ≡ []
    → SourceMakes notation source (at_end (lines_of lines.program))
made notation source lines h all_good =
    rw (h.program) (good_lines 1 [] (lines_of_file source) h.entries (subst (BadLinesAre notation 1 (lines_of_file source)) all_good h.bad) h.entered)

-- what lines make costs less than 2^32
pub made_small : (notation : Notation) (source : List ℕ) (p : Program) → SourceMakes notation source (at_end p) → cost p < 4294967296
made_small notation source [] h = cost_small [] tt tt
made_small notation source (line ∷ lines) h =
    let p : Program = line ∷ lines in
    cost_small p (are_small p (lines_stated 1 [] (lines_of_file source) (Ok p) tt h)) (lines_rise 1 [] (lines_of_file source) (Ok p) tt h)

-- lines that make a program with a line make it
pub some_left : (notation : Notation) (source : List ℕ) (p : List (ℕ × RustStatement)) → p ≢ [] → SourceMakes notation source (at_end (lines_of p))
    → SourceMakes notation source (Ok (lines_of p))
some_left notation source [] some h = absurd (some refl)
some_left notation source (line ∷ lines) some h = h
