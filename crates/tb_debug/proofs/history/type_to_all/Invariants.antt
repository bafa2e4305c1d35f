-- What holds at each turn of the loop of `type_to_all` in src/history.rt.
use Rattle.tb_debug.proofs.TypedLists.{TypedTo}
use Rattle.tb_debug.proofs.history.type_to_all.Given as goal

abbrev pub invariant-loop-index : goal.invariant-loop-index
invariant-loop-index l = TypedTo l.bytes l.index l.fn.checkpoints.items l.checkpoints.items
