-- What holds at each turn of the loop of `squeeze_signs` in src/signs.rt.
use Rattle.std.proofs.Common.{◌≡◌, ◌++◌, ◌+◌, ◌≤◌, length}
use Rattle.tb_parser.specs.Signed.{squeezed_from}
use Rattle.tb_parser.specs.declared.squeeze.Mode.TheVariants.{Code}
use Rattle.tb_parser.proofs.signs.squeeze_signs.Given as goal

abbrev pub invariant-loop-rest : goal.invariant-loop-rest
invariant-loop-rest l = record {
  walked : l.placed.items ++ squeezed_from 0 l.mode l.column l.rest ≡ squeezed_from 0 Code 1 l.fn.line;
  count : l.column + length l.rest ≤ length l.fn.line + 1;
}

abbrev pub decreases-loop-rest : goal.decreases-loop-rest
decreases-loop-rest l = length l.rest
