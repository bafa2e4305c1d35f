-- What holds at each turn of the loop of `Debugger::newest_between` in src/searching.rt.
use Rattle.std.proofs.Common.{◌≡◌, ◌-◌, ◌≤◌}
use Rattle.tb_debug.specs.Debuggers.{OnRun}
use Rattle.tb_debug.specs.Runs.{Point, IsOfRun}
use Rattle.tb_debug.proofs.Stopping.{Walked}
use Rattle.tb_debug.proofs.debugger.Debugger.newest_between.Given as goal

abbrev pub invariant-loop-moment : goal.invariant-loop-moment
invariant-loop-moment l =
    (start : Point) → start.begun ≡ 0 → OnRun start l.self → IsOfRun l.self.starts start l.fn.from → l.last ≤ l.self.present.events
    → Walked l.self start l.fn.from.events l.moment l.newest

abbrev pub decreases-loop-moment : goal.decreases-loop-moment
decreases-loop-moment l = l.last - l.moment.events
