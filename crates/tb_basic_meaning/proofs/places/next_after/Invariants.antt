-- What holds at each turn of the loop of `next_after` in src/places.rt.
use Rattle.std.proofs.Common.{◌≡◌}
use Rattle.tb_basic_syntax.specs.PlainData.{lines_of}
use Rattle.tb_basic_syntax.specs.Source.{numbers}
use Rattle.tb_basic_meaning.specs.Control.{next_after}
use Rattle.tb_basic_meaning.proofs.places.next_after.Given as goal

abbrev pub invariant-loop-line : goal.invariant-loop-line
invariant-loop-line l = next_after (numbers (lines_of l.line-iterator)) l.number ≡ next_after (numbers (lines_of l.program)) l.number
