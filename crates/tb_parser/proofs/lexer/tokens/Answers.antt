-- The goals of `tokens` in src/lexer.rt.
use Rattle.std.proofs.Common.{[]}
use Rattle.std.proofs.lemmas.List.{append-nil}
use Rattle.tb_parser.proofs.lexer.tokens.Goals as goal

pub returns : goal.returns
returns c = rw append-nil at (c.loop-token.invariant.so_far [] c.in_default.ensures)
