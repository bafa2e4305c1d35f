-- What holds at each turn of the loop of `coverage_text` in src/covering.rt.
use Rattle.std.proofs.Common.{◌≡◌, map, take}
use Rattle.std.specs.Prelude.{flat_map}
use Rattle.tb_engine_test.specs.Covering.{covered_of, source_text}
use Rattle.tb_engine_test.proofs.covering.coverage_text.Given as goal

abbrev pub invariant-loop-source : goal.invariant-loop-source
invariant-loop-source l = l.text.items ≡ flat_map source_text (map covered_of (take l.source-index l.sources))
