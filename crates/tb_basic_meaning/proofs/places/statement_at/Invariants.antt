-- What holds at each turn of the loop of `statement_at` in src/places.rt.
use Rattle.std.proofs.Common.{◌≡◌}
use Rattle.tb_basic_syntax.specs.PlainData.{lines_of}
use Rattle.tb_basic_meaning.specs.Control.{content_at}
use Rattle.tb_basic_meaning.proofs.places.statement_at.Given as goal

abbrev pub invariant-loop-line : goal.invariant-loop-line
invariant-loop-line l = content_at (lines_of l.line-iterator) l.number ≡ content_at (lines_of l.program) l.number
