-- What holds at each turn of the loop of `History::spare` in src/history.rt.
use Rattle.std.specs.Prelude.{◌<◌, length}
use Rattle.tb_debug.proofs.history.History.spare.Given as goal

abbrev pub invariant-loop-index : goal.invariant-loop-index
invariant-loop-index l = 0 < length l.self.later.items → l.found < length l.self.later.items
