-- What holds at each turn of the loop of `reaches_of` in src/reaching.rt.
use Rattle.std.proofs.Common.{◌≡◌, map, take}
use Rattle.tb_engine_test.specs.Reaching.{as_reach}
use Rattle.tb_engine_test.proofs.reaching.reaches_of.Given as goal

abbrev pub invariant-loop-row : goal.invariant-loop-row
invariant-loop-row l = l.reaches.items ≡ map as_reach (take l.row-index l.rows)
