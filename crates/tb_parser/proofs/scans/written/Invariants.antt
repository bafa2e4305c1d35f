-- What holds at each turn of the loop of `written` in src/scans.rt.
use Rattle.std.proofs.Common.{◌≡◌, ◌+◌, drop}
use Rattle.tb_parser.specs.Scans.{first_written}
use Rattle.tb_parser.proofs.scans.written.Given as goal

abbrev pub invariant-loop-i : goal.invariant-loop-i
invariant-loop-i l = first_written (l.i + 1) (drop l.i l.line) ≡ first_written 1 l.line
