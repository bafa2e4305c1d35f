-- The goals of `read_expression_line` in src/parser.rt.
use Rattle.std.proofs.Common.{◌≡◌, ◌∙◌, ℕ, List, Result, Ok, Err, IfSome}
use Rattle.std.proofs.lemmas.Result.{err_from_is_err_and}
use Rattle.tb_basic_syntax.specs.declared.expressions.Expr.{Expr}
use Rattle.tb_basic_syntax.specs.Source.{Expression}
use Rattle.tb_basic_syntax.specs.PlainData.{expression_of}
use Rattle.tb_parser.specs.declared.errors.LineFault.{LineFault}
use Rattle.tb_parser.specs.Answers.{Says, refusal_of}
use Rattle.tb_basic_text.specs.declared.notation.Notation.TheVariants.{Plain}
use Rattle.tb_parser.specs.Readings.{Expresses, ExpressionIs, IsFitIn, IsUnfitIn, TextIs, unfit_text, fit_text}
use Rattle.tb_parser.specs.Squeezed.{squeezed}
use Rattle.tb_parser.proofs.ReaderAnswers.{passes}
use Rattle.tb_parser.proofs.parser.read_expression_line.Goals as goal

expression_unfit : (line : List ℕ) (fault : LineFault) → IfSome (refusal_of fault.kind fault.column) (IsUnfitIn Plain line) → Says expression_of (Err fault) (ExpressionIs line)
expression_unfit line fault h = passes (refusal_of fault.kind fault.column) (IsUnfitIn Plain line) (λ r. ExpressionIs line (Err r)) (λ r u. unfit_text r u) h

expression_said : (line : List ℕ) (result : Result Expr LineFault) → IsFitIn Plain line
    → Says expression_of result (TextIs Expression Expresses (squeezed line)) → Says expression_of result (ExpressionIs line)
expression_said line (Ok x) fit h = fit_text (Ok (expression_of x)) fit h
expression_said line (Err fault) fit h = passes (refusal_of fault.kind fault.column) (λ r. TextIs Expression Expresses (squeezed line) (Err r))
    (λ r. ExpressionIs line (Err r)) (λ r t. fit_text (Err r) fit t) h

pub returns-in_err-squeeze_fit : goal.returns-in_err-squeeze_fit
returns-in_err-squeeze_fit c =
    let p = err_from_is_err_and c.from_residual.result c.from_residual.ensures.1 in
    rw (p.1, p.2) (expression_unfit c.args.line.now c.in_err-squeeze_fit.field-0.0 c.in_err-squeeze_fit.ensures)

pub returns : goal.returns
returns c =
    let placed : c.deref.result.now ≡ squeezed c.args.line.now = c.deref.ensures.value ∙ c.in_ok-squeeze_fit.ensures.1 in
    expression_said c.args.line.now c.read_value.result c.in_ok-squeeze_fit.ensures.0 (rw placed at c.read_value.ensures)
