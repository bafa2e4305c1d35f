-- The goals of `push_zeros` in src/blocks.rt.
use Rattle.std.proofs.Common.{arith}
use Rattle.tb_machine_disk.proofs.Filling.{grown}
use Rattle.tb_machine_disk.proofs.blocks.push_zeros.Goals as goal

pub returns : goal.returns
returns c = grind (arith, grown)
