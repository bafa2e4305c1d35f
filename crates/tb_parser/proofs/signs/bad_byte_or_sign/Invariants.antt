-- What holds at each turn of the loop of `bad_byte_or_sign` in src/signs.rt.
use Rattle.std.proofs.Common.{◌≡◌, ◌+◌, ◌≤◌, length}
use Rattle.tb_parser.specs.Signed.{first_bad}
use Rattle.tb_parser.specs.declared.squeeze.Mode.TheVariants.{Code}
use Rattle.tb_parser.proofs.signs.bad_byte_or_sign.Given as goal

abbrev pub invariant-loop-rest : goal.invariant-loop-rest
invariant-loop-rest l = record {
  so_far : first_bad 0 l.mode l.column l.rest ≡ first_bad 0 Code 1 l.fn.line;
  count : l.column + length l.rest ≤ length l.fn.line + 1;
}

abbrev pub decreases-loop-rest : goal.decreases-loop-rest
decreases-loop-rest l = length l.rest
