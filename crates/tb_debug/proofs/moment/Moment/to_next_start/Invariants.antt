-- What holds at each turn of the loop of `Moment::to_next_start` in src/moment.rt.
use Rattle.std.proofs.Common.{suc, ◌-◌, ◌≤◌}
use Rattle.tb_debug.specs.Begins.{NoneBegins}
use Rattle.tb_debug.specs.Runs.{Point, IsOfRun, StaysOnRun}
use Rattle.tb_debug.proofs.Beginning.{IsTally}
use Rattle.tb_debug.proofs.moment.Moment.to_next_start.Given as goal

abbrev pub invariant-loop-self : goal.invariant-loop-self
invariant-loop-self l = record {
  run : StaysOnRun l.starts l.fn.self l.self;
  few : l.self.events ≤ l.last;
  tally : IsTally l.starts l.fn.self l.self;
  none : (start : Point) → IsOfRun l.starts start l.fn.self → NoneBegins l.starts start l.fn.self.events (suc l.self.events);
}

abbrev pub decreases-loop-self : goal.decreases-loop-self
decreases-loop-self l = l.last - l.self.events
