-- What holds at each turn of the loop of `sections` in src/covering.rt.
use Rattle.std.proofs.Common.{◌≡◌, map, take}
use Rattle.std.specs.Prelude.{flat_map}
use Rattle.tb_engine_test.specs.Covering.{covered_of, section}
use Rattle.tb_engine_test.proofs.covering.sections.Given as goal

abbrev pub invariant-loop-source : goal.invariant-loop-source
invariant-loop-source l = l.text.items ≡ flat_map section (map covered_of (take l.source-index l.sources))
