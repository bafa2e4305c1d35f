-- The goals of `Interpreter::polled` in src/interpreter.rt.
use Rattle.tb_basic_syntax.specs.PlainData.{statement_of, lines_of}
use Rattle.tb_basic_syntax.specs.Source.{numbers}
use Rattle.tb_basic_meaning.specs.Control.{poll}
use Rattle.tb_basic_meaning.specs.Interpreted.{state_of}
use Rattle.tb_basic_meaning.specs.Meaning.{does}
use Rattle.tb_basic_meaning.proofs.Interpreting.{ran_then}
use Rattle.tb_basic_meaning.proofs.interpreter.Interpreter.polled.Goals as goal

pub returns : goal.returns
returns c =
    ran_then (poll c.args.number (state_of c.args.self.now)) (does (numbers (lines_of c.args.program.now)) c.args.number
    (statement_of c.args.statement.now)) c.args.self.now c.poll.new.self c.statement.new.self c.statement.result c.in_ok-poll.ensures c.statement.ensures
