-- The goals of `first_token` in src/lexer.rt.
use Rattle.std.proofs.Common.{arith}
use Rattle.tb_parser.specs.Kinds.{assigned, word, nothing}
use Rattle.tb_parser.proofs.Longest.{word_token_within}
use Rattle.tb_parser.proofs.lexer.first_token.Goals as goal

pub returns-then-is_assigned-clause-is : goal.returns-then-is_assigned-clause-is
returns-then-is_assigned-clause-is c = assigned c.if-is_assigned.ensures

pub returns-in-Some-clause-is : goal.returns-in-Some-clause-is
returns-in-Some-clause-is c = word c.if-is_assigned.ensures c.in-Some.word.0 c.in-Some.word.1 c.in-Some.ensures

pub returns-in-Some-clause-within : goal.returns-in-Some-clause-within
returns-in-Some-clause-within c = word_token_within _ _ _ _ (omega arith) c.in-Some.ensures

pub returns-in-None-clause-is : goal.returns-in-None-clause-is
returns-in-None-clause-is c = nothing c.if-is_assigned.ensures c.in-None.ensures
