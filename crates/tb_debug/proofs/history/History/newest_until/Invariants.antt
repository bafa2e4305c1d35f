-- What holds at each turn of the loop of `History::newest_until` in src/history.rt.
use Rattle.tb_debug.specs.Searching.{IsUntil}
use Rattle.tb_debug.proofs.history.History.newest_until.Given as goal

abbrev pub invariant-loop-index : goal.invariant-loop-index
invariant-loop-index l = IsUntil l.time l.self.later.items l.index l.found
