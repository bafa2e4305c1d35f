-- The goals of `blocks_in` in src/image.rt.
use Rattle.std.proofs.Common.{arith}
use Rattle.tb_machine_disk.proofs.Listing.{summed_more, summed_past}
use Rattle.tb_machine_disk.proofs.image.blocks_in.Goals as goal

pub returns-then-blocks-more-gt-FILE_BLOCKS : goal.returns-then-blocks-more-gt-FILE_BLOCKS
returns-then-blocks-more-gt-FILE_BLOCKS c =
    summed_past c.args.files.now c.counting.file-index c.counting.blocks c.further_blocks-more.result c.file-item.result
    c.counting.invariant.0 c.counting-test.true c.file-item.is c.further_blocks-more.ensures (omega arith)

pub counting-preserved : goal.counting-preserved
counting-preserved c = (
  summed_more c.args.files.now c.counting.file-index c.counting.blocks c.further_blocks-more.result c.file-item.result
      c.counting.invariant.0 c.counting-test.true c.file-item.is c.further_blocks-more.ensures,
  omega arith,
)
