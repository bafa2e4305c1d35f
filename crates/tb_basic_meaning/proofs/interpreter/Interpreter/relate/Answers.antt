-- The goals of `Interpreter::relate` in src/interpreter.rt.
use Rattle.std.proofs.lemmas.Result.{err_from_is_err_and}
use Rattle.tb_words.specs.Words.{holds}
use Rattle.tb_basic_syntax.specs.PlainData.{expression_of}
use Rattle.tb_basic_meaning.specs.Meaning.{valued}
use Rattle.tb_basic_meaning.proofs.interpreter.Interpreter.relate.Goals as goal

pub returns-in_err-left : goal.returns-in_err-left
returns-in_err-left c =
    let p = err_from_is_err_and c.from_residual.result c.from_residual.ensures.1 in
    rw (p.1, p.2) (λ go. c.in_err-left.ensures (λ x s. valued c.args.number (expression_of c.args.r.now) s (λ y s'. go (holds c.args.rel x y) s')))

pub returns-in_err-right : goal.returns-in_err-right
returns-in_err-right c =
    let p = err_from_is_err_and c.from_residual-in_err-right.result c.from_residual-in_err-right.ensures.1 in
    rw (p.1, p.2)
    (λ go. rw (c.in_ok-left.ensures (λ x s. valued c.args.number (expression_of c.args.r.now) s (λ y s'. go (holds c.args.rel x y) s')))
    (c.in_err-right.ensures (λ y s'. go (holds c.args.rel c.in_ok-left.left y) s')))
