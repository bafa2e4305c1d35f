-- What decreases where `index_from` in src/lists.rt calls itself.
use Rattle.std.proofs.Common.{length}
use Rattle.tb_debug_engine.proofs.lists.+index_from.Given as goal

abbrev pub decreases-index_from : goal.decreases-index_from
decreases-index_from l = length l.numbers.now
