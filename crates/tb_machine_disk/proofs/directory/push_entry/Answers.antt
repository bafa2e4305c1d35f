-- The goals of `push_entry` in src/directory.rt.
use Rattle.std.proofs.Common.{arith}
use Rattle.tb_machine_disk.proofs.directory.push_entry.Goals as goal

pub locate-track-requires : goal.locate-track-requires
locate-track-requires c = let few = c.requires in omega (arith, few)

pub overflow_cast-blocks-2 : goal.overflow_cast-blocks-2
overflow_cast-blocks-2 c = let few = c.requires in let is = c.further_blocks-blocks.ensures in omega (arith, few, is)
