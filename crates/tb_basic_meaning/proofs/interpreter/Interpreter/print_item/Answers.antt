-- The goals of `Interpreter::print_item` in src/interpreter.rt.
use Rattle.std.proofs.lemmas.Result.{err_from_is_err_and}
use Rattle.tb_words.specs.Words.{digits_of}
use Rattle.tb_basic_meaning.specs.Control.{send}
use Rattle.tb_basic_meaning.proofs.interpreter.Interpreter.print_item.Goals as goal

pub returns-in_err-value-in-Value : goal.returns-in_err-value-in-Value
returns-in_err-value-in-Value c =
    let r = c.from_residual-in_err-value-in-Value in
    let p = err_from_is_err_and r.result r.ensures.1 in
    rw (p.1, p.2, c.in-Value.is) (c.in_err-value-in-Value.ensures (λ v s. send (digits_of v) s))
