-- What decreases where `items_cost` in src/costs.rt calls itself.
use Rattle.std.proofs.Common.{length}
use Rattle.tb_compiled.proofs.costs.+items_cost.Given as goal

abbrev pub decreases-items_cost : goal.decreases-items_cost
decreases-items_cost l = length l.items.now
