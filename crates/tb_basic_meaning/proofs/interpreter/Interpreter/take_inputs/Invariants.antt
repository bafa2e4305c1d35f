-- What holds at each turn of the loop of `Interpreter::take_inputs` in src/interpreter.rt.
use Rattle.std.proofs.Common.{◌≡◌, drop}
use Rattle.tb_basic_syntax.specs.PlainData.{letters_of}
use Rattle.tb_basic_meaning.specs.Steps.{joined}
use Rattle.tb_basic_meaning.specs.Meaning.{inputs}
use Rattle.tb_basic_meaning.specs.Interpreted.{state_of}
use Rattle.tb_basic_meaning.proofs.interpreter.Interpreter.take_inputs.Given as goal

abbrev pub invariant-loop-letter : goal.invariant-loop-letter
invariant-loop-letter l =
    joined l.self.output.sent.items (inputs l.number (letters_of (drop l.letter-index l.letters)) (state_of l.self))
    ≡ joined l.initial.self.output.sent.items (inputs l.number (letters_of l.letters) (state_of l.initial.self))
