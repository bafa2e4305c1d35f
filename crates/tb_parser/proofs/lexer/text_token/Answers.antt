-- The goals of `text_token` in src/lexer.rt.
use Rattle.std.proofs.Common.{arith}
use Rattle.tb_parser.specs.Kinds.{quoted, unclosed}
use Rattle.tb_parser.proofs.lexer.text_token.Goals as goal

pub returns-then-line-i-eq34-clause-is : goal.returns-then-line-i-eq34-clause-is
returns-then-line-i-eq34-clause-is c = quoted c.loop-i.i (omega arith) (omega arith) c.loop-i.invariant c.if-line-i-eq34.true

pub returns-clause-is : goal.returns-clause-is
returns-clause-is c = unclosed (λ k le lt. c.loop-i.invariant k le (omega arith))
