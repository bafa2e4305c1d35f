-- What holds at each turn of the loop of `tokens` in src/lexer.rt.
use Rattle.std.proofs.Common.{◌-◌, ◌≤◌, ◌++◌, List, length}
use Rattle.tb_parser.specs.declared.lexer.Token.{Token}
use Rattle.tb_parser.specs.Tokens.{AreTokens, ComeTokens}
use Rattle.tb_parser.proofs.lexer.tokens.Given as goal

abbrev pub invariant-loop-token : goal.invariant-loop-token
invariant-loop-token l = record {
  within : l.at ≤ length l.fn.line;
  so_far : (more : List Token) → ComeTokens l.awaits l.fn.line l.at more → AreTokens l.fn.line (l.found.items ++ more);
}

abbrev pub decreases-loop-token : goal.decreases-loop-token
decreases-loop-token l = length l.fn.line - l.at
