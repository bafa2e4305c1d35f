-- What holds at each turn of the loop of `reached_in` in src/reaching.rt.
use Rattle.std.proofs.Common.{◌≡◌, ◌≤◌, take}
use Rattle.tb_engine_test.specs.Reaching.{reached_in}
use Rattle.tb_engine_test.proofs.reaching.reached_in.Given as goal

abbrev pub invariant-loop-line : goal.invariant-loop-line
invariant-loop-line l = (l.found ≡ reached_in (take l.line-index l.lines)) × (l.found ≤ l.line-index)
