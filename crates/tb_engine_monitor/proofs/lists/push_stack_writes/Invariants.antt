-- What holds at each turn of the loop of `push_stack_writes` in src/lists.rt.
use Rattle.std.proofs.Common.{◌≡◌, ◌-◌, ◌++◌, map}
use Rattle.std.specs.List.{range_with_len}
use Rattle.tb_engine_monitor.specs.declared.checkpoints.Checkpoint.TheVariants.{WritesToStack}
use Rattle.tb_engine_monitor.specs.Files.{stack_writes}
use Rattle.tb_engine_monitor.proofs.lists.push_stack_writes.Given as goal

abbrev pub invariant-places : goal.invariant-places
invariant-places l =
    l.list.items ++ map (λ at. WritesToStack at) (range_with_len l.at (0x0200 - l.at)) ≡ l.initial.list.items ++ stack_writes
