-- What holds at each turn of the loop of `bad_byte` in src/scans.rt.
use Rattle.std.proofs.Common.{◌≡◌, ◌+◌, drop}
use Rattle.tb_parser.specs.Scans.{first_bad}
use Rattle.tb_parser.specs.declared.squeeze.Mode.TheVariants.{Code}
use Rattle.tb_parser.proofs.scans.bad_byte.Given as goal

abbrev pub invariant-loop-i : goal.invariant-loop-i
invariant-loop-i l = first_bad l.mode (l.i + 1) (drop l.i l.line) ≡ first_bad Code 1 l.line
