-- What holds at each turn of the loop of `push_file` in src/blocks.rt.
use Rattle.std.proofs.Common.{length}
use Rattle.tb_machine_disk.proofs.Laying.{LaidTo}
use Rattle.tb_machine_disk.proofs.blocks.push_file.Given as goal

abbrev pub invariant-chaining : goal.invariant-chaining
invariant-chaining l = LaidTo l.initial.blocks.items l.k l.bytes l.blocks.items l.at l.rest

abbrev pub decreases-chaining : goal.decreases-chaining
decreases-chaining l = length l.rest
