-- What holds at each turn of the loop of `pieces` in src/pieces.rt, and what decreases.
use Rattle.std.proofs.Common.{length, map}
use Rattle.tb_engine_listing.specs.Pieces.{plan_of, row_of}
use Rattle.tb_engine_listing.proofs.Sweep.{Swept}
use Rattle.tb_engine_listing.proofs.pieces.pieces.Given as goal

abbrev pub invariant-loop-rest : goal.invariant-loop-rest
invariant-loop-rest l = Swept (plan_of l.program) (map row_of l.pieces.items) l.text l.at l.rest

abbrev pub decreases-loop-rest : goal.decreases-loop-rest
decreases-loop-rest l = length l.rest
