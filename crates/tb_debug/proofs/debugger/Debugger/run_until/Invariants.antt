-- What holds at each turn of the loop of `Debugger::run_until` in src/searching.rt.
use Rattle.std.proofs.Common.{◌≡◌, ◌+◌, ◌≤◌}
use Rattle.tb_debug.specs.Debuggers.{KeepsRun, OnRun}
use Rattle.tb_debug.specs.Runs.{Point}
use Rattle.tb_debug.proofs.Stopping.{Passed}
use Rattle.tb_debug.proofs.debugger.Debugger.run_until.Given as goal

abbrev pub invariant-loop-done : goal.invariant-loop-done
invariant-loop-done g l = record {
  run : KeepsRun l.fn.self l.self;
  shown : l.self.shown ≡ l.fn.self.shown;
  stops : l.self.stops ≡ l.fn.self.stops;
  few : l.self.present.events ≤ l.last;
  many : l.fn.self.present.events + l.done ≤ l.self.present.events;
  passed : (start : Point) → OnRun start l.fn.self → Passed l.fn.to start l.fn.self l.self;
}
