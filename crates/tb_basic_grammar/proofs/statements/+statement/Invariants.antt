-- What decreases when `statement`, `behind_keyword` and `conditional` in src/statements.rt call one another.
use Rattle.std.proofs.Common.{◌+◌, ◌*◌}
use Rattle.tb_basic_grammar.proofs.statements.+statement.Given as goal

abbrev pub decreases-statement : goal.decreases-statement
decreases-statement l = 3 * l.nesting

abbrev pub decreases-behind_keyword : goal.decreases-behind_keyword
decreases-behind_keyword l = 3 * l.nesting + 2

abbrev pub decreases-conditional : goal.decreases-conditional
decreases-conditional l = 3 * l.nesting + 1
