-- What holds at each turn of the loop of `reached` in src/reaching.rt.
use Rattle.std.proofs.Common.{◌≡◌, map, drop}
use Rattle.tb_engine_test.specs.Reaching.{reached, reached_from}
use Rattle.tb_engine_test.proofs.reaching.reached.Given as goal

abbrev pub invariant-loop-rows : goal.invariant-loop-rows
invariant-loop-rows l = reached_from l.sum.items (map (λ rows. rows.items) (drop l.rows-index l.stretches)) ≡ reached (map (λ rows. rows.items) l.stretches)
