-- The goals of `parse_expr` in src/parser.rt.
use Rattle.std.proofs.Common.{◌≡◌, ℕ, List, Result, Ok, Err, ap, refl, sym, subst, ◌∙◌}
use Rattle.tb_basic_syntax.specs.Source.{Expression}
use Rattle.tb_basic_syntax.specs.PlainData.{expression_of}
use Rattle.tb_parser.specs.declared.errors.LineFault.{LineFault}
use Rattle.tb_parser.specs.declared.errors.SourceError.{SourceError}
use Rattle.tb_parser.specs.Answers.{Answers, InLineOne, Says, refusal_of}
use Rattle.tb_parser.specs.Files.{FileRefusal, refused_at}
use Rattle.tb_parser.specs.Readings.{Refusal, ExpressionIs}
use Rattle.tb_parser.specs.Refusals.{at_line}
use Rattle.tb_parser.proofs.Outcomes.{answers_at, only_one}
use Rattle.tb_parser.proofs.ReaderAnswers.{passes}
use Rattle.tb_parser.proofs.Unique.{expression_one, err_same, ok_err, ok_same}
use Rattle.tb_parser.proofs.parser.parse_expr.Goals as goal

abbrev Whole : List ℕ → Result Expression FileRefusal → Type 0
Whole text outcome = InLineOne (ExpressionIs text) outcome

in_line_one : (r : FileRefusal) → r.line ≡ 1 → r ≡ refused_at 1 r.refusal
in_line_one r e = ap (λ (n : ℕ). refused_at n r.refusal) e

whole_one : (text : List ℕ) (a b : Result Expression FileRefusal) → Whole text a → Whole text b → a ≡ b
whole_one text (Ok x) (Ok y) h k = ap (λ (v : Expression). Ok v) (ok_same x y (expression_one text (Ok x) (Ok y) h k))
whole_one text (Ok x) (Err s) h k = absurd (ok_err x s.refusal (expression_one text (Ok x) (Err s.refusal) h k.1))
whole_one text (Err r) (Ok y) h k = absurd (ok_err y r.refusal (expression_one text (Ok y) (Err r.refusal) k h.1))
whole_one text (Err r) (Err s) h k =
    let same : r.refusal ≡ s.refusal = err_same r.refusal s.refusal (expression_one text (Err r.refusal) (Err s.refusal) h.1 k.1) in
    ap (λ (v : FileRefusal). Err v) (in_line_one r h.0 ∙ ap (λ (v : Refusal). refused_at 1 v) same ∙ sym (in_line_one s k.0))

said_at : (text : List ℕ) (fault : LineFault) (error : SourceError) → error ≡ at_line 1 fault → Says expression_of (Err fault) (ExpressionIs text)
    → Answers expression_of (Err error) (Whole text)
said_at text fault error is said =
    let Family : SourceError → Type 0 = λ e. Answers expression_of (Err e) (Whole text) in
    subst Family (sym is) (answers_at expression_of (Whole text) fault.kind fault.column 1
    (passes (refusal_of fault.kind fault.column) (λ r. ExpressionIs text (Err r)) (λ r. Whole text (Err (refused_at 1 r))) (λ r h. (refl, h)) said))

pub returns-in-Ok-clause-only : goal.returns-in-Ok-clause-only
returns-in-Ok-clause-only c = λ outcome is. whole_one c.args.text.now _ outcome c.in-Ok.ensures is

pub returns-in-Err-clause-found : goal.returns-in-Err-clause-found
returns-in-Err-clause-found c = said_at c.args.text.now c.in-Err.fault c.at_line.result c.at_line.ensures c.in-Err.ensures

pub returns-in-Err-clause-only : goal.returns-in-Err-clause-only
returns-in-Err-clause-only c =
    only_one expression_of (Whole c.args.text.now) (Err c.at_line.result) (whole_one c.args.text.now) (returns-in-Err-clause-found c)
