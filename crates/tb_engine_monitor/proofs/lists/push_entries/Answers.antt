-- The goals of `push_entries` in src/lists.rt.
use Rattle.std.proofs.Common.{◌+◌}
use Rattle.tb_engine_monitor.specs.declared.checkpoints.Checkpoint.TheVariants.{Enters}
use Rattle.tb_engine_monitor.proofs.Appending.{range_more}
use Rattle.tb_engine_monitor.proofs.lists.push_entries.Goals as goal

pub depths-preserved : goal.depths-preserved
depths-preserved c =
    range_more (λ depth. Enters c.args.at (depth + c.args.pushed) (depth + 1)) c.depths.depth 14 c.depths.list.items c.push.new.self.items _
    c.depths-test.true c.depths.invariant c.in_ok-push.ensures.items
