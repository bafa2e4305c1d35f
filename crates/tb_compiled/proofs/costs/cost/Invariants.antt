-- What holds at each turn of the loop of `cost` in src/costs.rt.
use Rattle.std.proofs.Common.{◌≡◌, ◌+◌, sum_by}
use Rattle.tb_basic_syntax.specs.PlainData.{lines_of}
use Rattle.tb_basic_meaning.specs.Cost.{statement_cost, cost}
use Rattle.tb_compiled.proofs.costs.cost.Given as goal

abbrev pub invariant-loop-statement : goal.invariant-loop-statement
invariant-loop-statement l = l.sum + sum_by (λ line. 36 + statement_cost line.content) (lines_of l.statement-iterator) ≡ cost (lines_of l.program)
