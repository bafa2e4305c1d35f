-- What holds at each turn of the loop of `readable` in src/memory.rt.
use Rattle.std.proofs.Common.{◌≡◌, ◌++◌, ◌+◌, ◌-◌}
use Rattle.tb_memmap.specs.Bytes.{at}
use Rattle.tb_dap_views.specs.Memory.{many, readable}
use Rattle.tb_dap_views.proofs.memory.readable.Given as goal

abbrev pub invariant-loop-index : goal.invariant-loop-index
invariant-loop-index l = l.bytes.items ++ readable (many l.place l.count - l.index) (at l.memory) (l.place + l.index) ≡ readable (many l.place l.count) (at l.memory) l.place
