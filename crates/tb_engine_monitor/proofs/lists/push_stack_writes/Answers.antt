-- The goals of `push_stack_writes` in src/lists.rt.
use Rattle.tb_engine_monitor.specs.declared.checkpoints.Checkpoint.TheVariants.{WritesToStack}
use Rattle.tb_engine_monitor.proofs.Appending.{range_more}
use Rattle.tb_engine_monitor.proofs.lists.push_stack_writes.Goals as goal

pub places-preserved : goal.places-preserved
places-preserved c =
    range_more (λ at. WritesToStack at) c.places.at 512 c.places.list.items c.push.new.self.items _
    c.places-test.true c.places.invariant c.in_ok-push.ensures.items
