-- What holds at each turn of the loop of `bytes_from` in src/readings.rt.
use Rattle.std.proofs.Common.{◌≡◌}
use Rattle.tb_memmap.specs.Bytes.{at}
use Rattle.tb_debug.specs.Readings.{bytes_from}
use Rattle.tb_debug.proofs.readings.bytes_from.Given as goal

abbrev pub invariant-loop-index : goal.invariant-loop-index
invariant-loop-index l = l.bytes.items ≡ bytes_from (at l.memory) l.address l.index
