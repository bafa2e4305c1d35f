-- What holds at each turn of the loop of `Debugger::run_to_time` in src/debugger.rt.
use Rattle.std.proofs.Common.{◌≡◌, ◌+◌, ◌≤◌}
use Rattle.tb_debug.specs.Begins.{BeginsThere}
use Rattle.tb_debug.specs.Debuggers.{KeepsRun, OnRun, begun_by}
use Rattle.tb_debug.specs.Runs.{Point}
use Rattle.tb_debug.specs.declared.moment.Reached.TheVariants.{Line}
use Rattle.tb_debug.proofs.debugger.Debugger.run_to_time.Given as goal

abbrev pub invariant-loop-done : goal.invariant-loop-done
invariant-loop-done g l = record {
  run : KeepsRun l.fn.self l.self;
  shown : l.self.shown ≡ l.fn.self.shown;
  stops : l.self.stops ≡ l.fn.self.stops;
  few : l.self.present.events ≤ l.last;
  many : l.fn.self.present.events + l.done ≤ l.self.present.events;
  before : begun_by l.fn.self ≤ l.time → begun_by l.self ≤ l.time;
  begins : (start : Point) → OnRun start l.fn.self → BeginsThere l.fn.self.starts start Line l.fn.self.present l.self.present;
}
