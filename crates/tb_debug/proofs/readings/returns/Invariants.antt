-- What holds at each turn of the loop of `returns` in src/readings.rt.
use Rattle.std.proofs.Common.{◌≡◌, ◌-◌, ◌++◌}
use Rattle.tb_memmap.specs.Bytes.{at}
use Rattle.tb_compiled.specs.Compiled.{starts_of}
use Rattle.tb_debug.specs.Readings.{lines_of_returns}
use Rattle.tb_debug.proofs.readings.returns.Given as goal

abbrev pub invariant-loop-told : goal.invariant-loop-told
invariant-loop-told l =
    l.lines.items ++ lines_of_returns (starts_of l.program) (at l.memory) (l.count - l.told) ≡ lines_of_returns (starts_of l.program) (at l.memory) l.count
