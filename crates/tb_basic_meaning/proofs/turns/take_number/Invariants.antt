-- What holds at each turn of the loop of `take_number` in src/turns.rt.
use Rattle.std.proofs.Common.{◌≡◌, drop}
use Rattle.tb_basic_meaning.specs.Input.{turn, Nothing}
use Rattle.tb_basic_meaning.specs.Turns.{reading_of}
use Rattle.tb_basic_meaning.proofs.turns.take_number.Given as goal

abbrev pub invariant-loop-index : goal.invariant-loop-index
invariant-loop-index l = turn (reading_of l.reading) (drop l.index l.text) ≡ turn Nothing l.text
