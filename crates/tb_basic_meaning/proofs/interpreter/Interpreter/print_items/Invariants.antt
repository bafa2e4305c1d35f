-- What holds at each turn of the loop of `Interpreter::print_items` in src/interpreter.rt.
use Rattle.std.proofs.Common.{◌≡◌, drop, map}
use Rattle.tb_basic_syntax.specs.PlainData.{item_of}
use Rattle.tb_basic_meaning.specs.Steps.{joined}
use Rattle.tb_basic_meaning.specs.Meaning.{print_items}
use Rattle.tb_basic_meaning.specs.Interpreted.{state_of}
use Rattle.tb_basic_meaning.proofs.interpreter.Interpreter.print_items.Given as goal

abbrev pub invariant-loop-item : goal.invariant-loop-item
invariant-loop-item l =
    joined l.self.output.sent.items (print_items l.number (map item_of (drop l.item-index l.items)) (state_of l.self))
    ≡ joined l.initial.self.output.sent.items (print_items l.number (map item_of l.items) (state_of l.initial.self))
