-- The goals of `Interpreter::go_sub` in src/interpreter.rt.
use Rattle.std.proofs.lemmas.Result.{err_from_is_err_and}
use Rattle.tb_basic_syntax.specs.PlainData.{lines_of}
use Rattle.tb_basic_syntax.specs.Source.{numbers}
use Rattle.tb_basic_meaning.specs.Control.{go_sub}
use Rattle.tb_basic_meaning.proofs.interpreter.Interpreter.go_sub.Goals as goal

pub returns-in_err-target : goal.returns-in_err-target
returns-in_err-target c =
    let p = err_from_is_err_and c.from_residual.result c.from_residual.ensures.1 in
    rw (p.1, p.2) (c.in_err-target.ensures (go_sub (numbers (lines_of c.args.program.now)) c.args.number))
