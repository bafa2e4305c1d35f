-- What holds at each turn of the loop of `Interpreter::run` in src/interpreter.rt.
use Rattle.std.proofs.Common.{◌≡◌, ◌-◌}
use Rattle.tb_basic_syntax.specs.PlainData.{lines_of}
use Rattle.tb_basic_meaning.specs.Steps.{GoesOn, advance_by}
use Rattle.tb_basic_meaning.specs.Meaning.{line}
use Rattle.tb_basic_meaning.specs.Interpreted.{state_of}
use Rattle.tb_basic_meaning.proofs.interpreter.Interpreter.run.Given as goal

-- what is left to do leads to the whole run
abbrev pub invariant-loop : goal.invariant-loop
invariant-loop l =
    advance_by (line (lines_of l.program)) (l.limit - l.counter) (GoesOn (state_of l.self) l.self.output.sent.items)
    ≡ advance_by (line (lines_of l.program)) l.limit (GoesOn (state_of l.initial.self) l.initial.self.output.sent.items)
