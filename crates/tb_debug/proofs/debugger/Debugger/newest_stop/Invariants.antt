-- What holds at each turn of the loop of `Debugger::newest_stop` in src/searching.rt.
use Rattle.std.proofs.Common.{◌≡◌, ◌≤◌}
use Rattle.tb_debug.specs.Debuggers.{OnRun}
use Rattle.tb_debug.specs.Runs.{Point}
use Rattle.tb_debug.specs.Searching.{KnowsAfter}
use Rattle.tb_debug.proofs.debugger.Debugger.newest_stop.Given as goal

abbrev pub invariant-loop-index : goal.invariant-loop-index
invariant-loop-index l =
    (start : Point) → start.begun ≡ 0 → OnRun start l.self → (l.last ≤ l.self.present.events) × KnowsAfter l.self start l.last l.newest
