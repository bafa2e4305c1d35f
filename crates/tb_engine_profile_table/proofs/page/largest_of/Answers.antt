-- The goals of `largest_of` in src/page.rt.
use Rattle.tb_engine_profile_table.proofs.Largest.{largest_line}
use Rattle.tb_engine_profile_table.proofs.page.largest_of.Goals as goal

pub loop-line-preserved : goal.loop-line-preserved
loop-line-preserved c =
    largest_line c.args.whole.now.start.cycles c.loop-line.largest c.max-largest.result c.args.lines.now c.loop-line.line-index _
    c.loop-line-test.true c.loop-line.invariant c.max-largest.ensures
