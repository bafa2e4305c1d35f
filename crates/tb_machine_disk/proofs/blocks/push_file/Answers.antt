-- The goals of `push_file` in src/blocks.rt.
use Rattle.tb_machine_disk.proofs.Laying.{laid_step, laid_end}
use Rattle.tb_machine_disk.proofs.blocks.push_file.Goals as goal

pub chaining-preserved : goal.chaining-preserved
chaining-preserved c =
    laid_step _ c.args.k c.args.bytes.now _ c.chaining.at c.chaining.rest.now
    c.split_at.result.0.now c.split_at.result.1.now _ c.locate-track.result.track c.locate-track.result.sector
    c.chaining.invariant c.chaining-test.true c.split_at.ensures.front c.split_at.ensures.back
    c.locate-track.ensures.track c.locate-track.ensures.sector c.in_ok-push_block.ensures

pub returns : goal.returns
returns c =
    laid_end _ c.args.k c.args.bytes.now _ c.chaining.at c.chaining.rest.now _
    c.chaining.invariant c.chaining-test.false c.in_ok-push_block-2.ensures
