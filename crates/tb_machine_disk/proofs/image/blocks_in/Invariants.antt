-- What holds at each turn of the loop of `blocks_in` in src/image.rt.
use Rattle.std.proofs.Common.{◌≡◌, ◌≤◌, take, sum_by}
use Rattle.tb_machine_disk.specs.Images.{blocks_of}
use Rattle.tb_machine_disk.proofs.image.blocks_in.Given as goal

abbrev pub invariant-counting : goal.invariant-counting
invariant-counting l = (l.blocks ≡ sum_by blocks_of (take l.file-index l.files)) × (l.blocks ≤ 664)
