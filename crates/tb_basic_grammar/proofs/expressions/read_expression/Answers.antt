-- The goals of `read_expression` in src/expressions.rt.
use Rattle.tb_basic_grammar.proofs.ExpressionLaws.{is_found, is_only}
use Rattle.tb_basic_grammar.proofs.expressions.read_expression.Goals as goal

pub returns-clause-found : goal.returns-clause-found
returns-clause-found c = is_found c.args.text.now c.expression.result c.expression.ensures

pub returns-clause-only : goal.returns-clause-only
returns-clause-only c = is_only c.args.text.now c.expression.result c.expression.ensures
