-- What holds at each turn of the loop of `written_from` in src/lexer.rt.
use Rattle.tb_parser.specs.Kinds.{AreSpaces}
use Rattle.tb_parser.proofs.lexer.written_from.Given as goal

abbrev pub invariant-loop-place : goal.invariant-loop-place
invariant-loop-place l = AreSpaces l.line l.fn.from l.place
