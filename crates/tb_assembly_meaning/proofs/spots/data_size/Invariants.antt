-- What holds at each turn of the loop of `data_size` in src/spots.rt.
use Rattle.std.proofs.Common.{◌≡◌, ◌+◌, drop, map}
use Rattle.tb_assembly_text.specs.Lists.{content_of}
use Rattle.tb_assembly_meaning.specs.Places.{data_size}
use Rattle.tb_assembly_meaning.proofs.spots.data_size.Given as goal

abbrev pub invariant-loop-datum : goal.invariant-loop-datum
invariant-loop-datum l = l.size + data_size (drop l.datum-index (map content_of l.list)) ≡ data_size (map content_of l.list)
