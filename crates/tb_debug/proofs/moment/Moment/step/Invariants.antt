-- What holds at each turn of the loop of `Moment::step` in src/moment.rt.
use Rattle.std.proofs.Common.{◌≡◌, ◌+◌}
use Rattle.tb_debug.specs.Runs.{StaysOnRun}
use Rattle.tb_debug.proofs.moment.Moment.step.Given as goal

abbrev pub invariant-loop-taken : goal.invariant-loop-taken
invariant-loop-taken l = record {
  run : StaysOnRun l.starts l.fn.self l.self;
  events : l.self.events ≡ l.fn.self.events + l.taken;
}
