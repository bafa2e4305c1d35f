-- The goals of `operand_token` in src/lexer.rt.
use Rattle.tb_parser.specs.Kinds.{random, variable}
use Rattle.tb_parser.proofs.lexer.operand_token.Goals as goal

pub returns-in-Some-clause-is : goal.returns-in-Some-clause-is
returns-in-Some-clause-is c = random c.in-Some.end c.in-Some.ensures

pub returns-in-None-clause-is : goal.returns-in-None-clause-is
returns-in-None-clause-is c = variable c.in-None.ensures
