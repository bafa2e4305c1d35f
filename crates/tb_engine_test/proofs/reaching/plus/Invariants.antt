-- What holds at each turn of the loop of `plus` in src/reaching.rt.
use Rattle.std.proofs.Common.{◌≡◌, ◌++◌, drop}
use Rattle.tb_engine_test.specs.Reaching.{plus}
use Rattle.tb_engine_test.proofs.reaching.plus.Given as goal

abbrev pub invariant-loop-reach : goal.invariant-loop-reach
invariant-loop-reach l = l.sum.items ++ plus l.rest (drop l.reach-index l.more) ≡ plus l.counted l.more
