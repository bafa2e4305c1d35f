-- What holds at each turn of the loop of `file_blocks` in src/image.rt.
use Rattle.tb_machine_disk.proofs.Listing.{AreLaid}
use Rattle.tb_machine_disk.proofs.image.file_blocks.Given as goal

abbrev pub invariant-laying : goal.invariant-laying
invariant-laying l = AreLaid l.files l.file-index l.block l.blocks.items
