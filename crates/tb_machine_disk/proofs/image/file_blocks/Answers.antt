-- The goals of `file_blocks` in src/image.rt.
use Rattle.std.proofs.Common.{◌≡◌, ◌++◌, ◌-◌, ◌*◌, length, ap, ◌∙◌, arith}
use Rattle.std.specs.Prelude.{replicate, sum_by}
use Rattle.tb_machine_disk.specs.Images.{blocks_of}
use Rattle.tb_machine_disk.proofs.Listing.{room, are_laid_more, are_laid_all, all_counted, area_length}
use Rattle.tb_machine_disk.proofs.image.file_blocks.Goals as goal

pub push_file-requires : goal.push_file-requires
push_file-requires c = room c.args.files.now c.laying.file-index c.laying.block c.file-item.result c.laying.invariant.count c.laying-test.true c.file-item.is c.requires

pub laying-preserved : goal.laying-preserved
laying-preserved c =
    are_laid_more c.args.files.now c.laying.file-index c.laying.block c.further_blocks.result c.laying.blocks.items c.push_file.new.blocks.items c.file-item.result
    c.laying.invariant c.laying-test.true c.file-item.is c.further_blocks.ensures c.in_ok-push_file.ensures

pub returns-clause-items : goal.returns-clause-items
returns-clause-items c =
    let all = are_laid_all c.args.files.now c.laying.file-index c.laying.block c.laying.blocks.items c.laying.invariant c.laying-test.false in
    let used = all_counted c.args.files.now c.laying.file-index c.laying.block c.laying.blocks.items c.laying.invariant c.laying-test.false in
    let left : (664 - c.laying.block) * 256 ≡ 256 * (664 - sum_by blocks_of c.args.files.now) = omega (arith, used) in
    c.in_ok-push_zeros.ensures ∙ (λ i. all i ++ replicate (left i) 0)

pub returns-clause-len : goal.returns-clause-len
returns-clause-len c = ap length (returns-clause-items c) ∙ area_length c.args.files.now c.requires
