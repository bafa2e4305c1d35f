-- What holds at each turn of the loop of `missed_numbers` in src/covering.rt.
use Rattle.std.proofs.Common.{◌≡◌, take}
use Rattle.std.specs.Prelude.{flat_map}
use Rattle.tb_engine_test.specs.Covering.{missed}
use Rattle.tb_engine_test.proofs.covering.missed_numbers.Given as goal

abbrev pub invariant-loop-line : goal.invariant-loop-line
invariant-loop-line l = l.text.items ≡ flat_map missed (take l.line-index l.lines)
