-- What holds at each turn of the loop of `count_events` in src/run.rt.
use Rattle.std.proofs.Common.{◌≤◌, ◌-◌}
use Rattle.tb_machine_profile.proofs.Counting.{Counts}
use Rattle.tb_machine_profile.proofs.run.count_events.Given as goal

abbrev pub invariant-loop-taken : goal.invariant-loop-taken
invariant-loop-taken g l =
    (l.taken ≤ l.fn.limit) × Counts g.O.Outside.gives l.fn.outside l.fn.machine l.starts l.taken l.outside l.machine l.tally

abbrev pub decreases-loop-taken : goal.decreases-loop-taken
decreases-loop-taken g l = l.fn.limit - l.taken
