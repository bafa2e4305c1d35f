-- What holds at each turn of the loop of `text_token` in src/lexer.rt.
use Rattle.std.proofs.Common.{◌+◌}
use Rattle.tb_parser.specs.Kinds.{LacksQuotes}
use Rattle.tb_parser.proofs.lexer.text_token.Given as goal

abbrev pub invariant-loop-i : goal.invariant-loop-i
invariant-loop-i l = LacksQuotes l.line (l.fn.start + 1) l.i
