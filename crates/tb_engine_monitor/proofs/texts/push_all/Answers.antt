-- The goals of `push_all` in src/texts.rt.
use Rattle.tb_engine_monitor.proofs.Appending.{done, more}
use Rattle.tb_engine_monitor.proofs.texts.push_all.Goals as goal

pub loop-index-preserved : goal.loop-index-preserved
loop-index-preserved c =
    more c.args.list.now c.loop-index.index _ c.loop-index.text.items c.push_checkpoint.new.text.items _
    c.loop-index-test.true c.loop-index.invariant c.in_ok-push_checkpoint.ensures

pub returns : goal.returns
returns c = done c.args.list.now c.loop-index.index _ _ c.loop-index-test.false c.loop-index.invariant
