-- What holds at each turn of the loop of `push_entries` in src/lists.rt.
use Rattle.std.proofs.Common.{◌≡◌, ◌+◌, ◌-◌, ◌++◌, map}
use Rattle.std.specs.List.{range_with_len}
use Rattle.tb_engine_monitor.specs.declared.checkpoints.Checkpoint.TheVariants.{Enters}
use Rattle.tb_engine_monitor.specs.Files.{entries}
use Rattle.tb_engine_monitor.proofs.lists.push_entries.Given as goal

abbrev pub invariant-depths : goal.invariant-depths
invariant-depths l =
    l.list.items ++ map (λ depth. Enters l.at (depth + l.pushed) (depth + 1)) (range_with_len l.depth (14 - l.depth))
    ≡ l.initial.list.items ++ entries l.at l.pushed l.least
