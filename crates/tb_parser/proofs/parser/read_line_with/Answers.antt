-- The goals of `read_line_with` in src/parser.rt.
use Rattle.std.proofs.Common.{◌≡◌, ◌≢◌, ◌∙◌, arith, ℕ, List, [], ◌∷◌, true, false, length, sym, refl, Some, Err, IfSome, ◌==◌}
use Rattle.std.proofs.lemmas.Result.{err_from_is_err_and}
use Rattle.std.proofs.lemmas.Bool.{eqb-true}
use Rattle.tb_basic_syntax.specs.Source.{Statement}
use Rattle.tb_basic_syntax.specs.PlainData.{statement_of}
use Rattle.tb_basic_grammar.specs.Statements.{States}
use Rattle.tb_parser.specs.declared.errors.LineFault.{LineFault}
use Rattle.tb_parser.specs.declared.squeeze.Placed.{Placed}
use Rattle.tb_parser.specs.Answers.{Says, edit_of, refusal_of}
use Rattle.tb_basic_text.specs.declared.notation.Notation.{Notation}
use Rattle.tb_parser.specs.Readings.{LineIn, IsFitIn, IsUnfitIn, IsLineNumber, IsNumberedIn, TextIs, blank, unfit, unnumbered, bad_line_number, deletes, sets, unread}
use Rattle.tb_parser.specs.Scans.{first_written, number_at}
use Rattle.tb_parser.specs.Notations.{squeezed_in}
use Rattle.tb_parser.proofs.ReaderAnswers.{passes}
use Rattle.tb_parser.proofs.parser.read_line_with.Goals as goal

line_unfit : (notation : Notation) (line : List ℕ) (first : ℕ) (fault : LineFault) → first_written 1 line ≡ Some first → IfSome (refusal_of fault.kind fault.column)
    (IsUnfitIn notation line) → Says edit_of (Err fault) (LineIn notation line)
line_unfit notation line first fault e h =
    passes (refusal_of fault.kind fault.column) (IsUnfitIn notation line) (λ r. LineIn notation line (Err r)) (λ r u. unfit first r e u) h

line_unread : (notation : Notation) (line : List ℕ) (number : ℕ) (text : List Placed) (fault : LineFault) → IsNumberedIn notation line number text → text ≢ []
    → Says statement_of (Err fault) (TextIs Statement States text) → Says edit_of (Err fault) (LineIn notation line)
line_unread notation line number text fault numbered some h =
    passes (refusal_of fault.kind fault.column) (λ r. TextIs Statement States text (Err r)) (λ r. LineIn notation line (Err r)) (λ r t. unread number text r numbered some t) h

not_empty : (text : List Placed) → (length text == 0) ≡ false → text ≢ []
not_empty [] e = λ h. cc
not_empty (p ∷ text) e = λ h. cc

is_empty : (text : List Placed) → (length text == 0) ≡ true → text ≡ []
is_empty [] e = refl
is_empty (p ∷ text) e = let none : length (p ∷ text) ≡ 0 = eqb-true (length (p ∷ text)) 0 e in absurd (omega arith)

numbered : (notation : Notation) (line : List ℕ) (number : ℕ) (text : List Placed) → IsFitIn notation line → IsLineNumber number
    → (number_at 0 (squeezed_in notation line)).value ≡ number → (number_at 0 (squeezed_in notation line)).rest ≡ text → IsNumberedIn notation line number text
numbered notation line number text fit range value rest = record { fit = fit; value = value; rest = rest; in_range = range }

pub returns-in_default : goal.returns-in_default
returns-in_default c = blank (sym c.in_default.ensures)

pub returns-in_err-squeeze_fit : goal.returns-in_err-squeeze_fit
returns-in_err-squeeze_fit c =
    let p = err_from_is_err_and c.from_residual.result c.from_residual.ensures.1 in
    rw (p.1, p.2) (line_unfit c.args.notation c.args.line.now c.in-Some.first c.in_err-squeeze_fit.field-0.0 (sym c.in-Some.ensures) c.in_err-squeeze_fit.ensures)

pub returns-then-not-is_numbered : goal.returns-then-not-is_numbered
returns-then-not-is_numbered c =
    let placed : c.deref.result.now ≡ squeezed_in c.args.notation c.args.line.now = c.deref.ensures.value ∙ c.in_ok-squeeze_fit.ensures.1 in
    unnumbered c.in-Some.first (sym c.in-Some.ensures) c.in_ok-squeeze_fit.ensures.0 (rw placed at (sym c.if-not-is_numbered.ensures))

pub returns-in_default-line_number : goal.returns-in_default-line_number
returns-in_default-line_number c =
    let placed : c.deref.result.now ≡ squeezed_in c.args.notation c.args.line.now = c.deref.ensures.value ∙ c.in_ok-squeeze_fit.ensures.1 in
    let again : c.deref-2.result.now ≡ squeezed_in c.args.notation c.args.line.now = c.deref-2.ensures.value ∙ c.in_ok-squeeze_fit.ensures.1 in
    bad_line_number c.in-Some.first (sym c.in-Some.ensures) c.in_ok-squeeze_fit.ensures.0 (rw placed at (sym c.if-not-is_numbered.ensures)) (rw again at c.in_default-line_number.ensures)

pub returns-then-is_empty : goal.returns-then-is_empty
returns-then-is_empty c =
    let placed : c.deref-2.result.now ≡ squeezed_in c.args.notation c.args.line.now = c.deref-2.ensures.value ∙ c.in_ok-squeeze_fit.ensures.1 in
    let n = c.in-Some-line_number in
    deletes n.number (numbered c.args.notation c.args.line.now n.number [] c.in_ok-squeeze_fit.ensures.0 n.ensures.0 (rw placed at n.ensures.1)
    (rw placed at n.ensures.2 ∙ is_empty n.text.now (sym c.if-is_empty.ensures)))

pub returns-in_err-statement : goal.returns-in_err-statement
returns-in_err-statement c =
    let placed : c.deref-2.result.now ≡ squeezed_in c.args.notation c.args.line.now = c.deref-2.ensures.value ∙ c.in_ok-squeeze_fit.ensures.1 in
    let n = c.in-Some-line_number in
    let is = numbered c.args.notation c.args.line.now n.number n.text.now c.in_ok-squeeze_fit.ensures.0 n.ensures.0 (rw placed at n.ensures.1) (rw placed at n.ensures.2) in
    let p = err_from_is_err_and c.from_residual-in_err-statement.result c.from_residual-in_err-statement.ensures.1 in
    rw (p.1, p.2) (line_unread c.args.notation c.args.line.now n.number n.text.now c.in_err-statement.field-0.0 is (not_empty n.text.now (sym c.if-is_empty.ensures)) c.in_err-statement.ensures)

pub returns : goal.returns
returns c =
    let placed : c.deref-2.result.now ≡ squeezed_in c.args.notation c.args.line.now = c.deref-2.ensures.value ∙ c.in_ok-squeeze_fit.ensures.1 in
    let n = c.in-Some-line_number in
    let is = numbered c.args.notation c.args.line.now n.number n.text.now c.in_ok-squeeze_fit.ensures.0 n.ensures.0 (rw placed at n.ensures.1) (rw placed at n.ensures.2) in
    sets n.number n.text.now (statement_of c.in_ok-statement.statement) is (not_empty n.text.now (sym c.if-is_empty.ensures)) c.in_ok-statement.ensures
