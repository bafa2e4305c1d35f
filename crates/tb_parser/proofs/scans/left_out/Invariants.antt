-- What holds at each turn of the loop of `left_out` in src/scans.rt.
use Rattle.std.proofs.Common.{◌≡◌, drop}
use Rattle.tb_parser.specs.Scans.{left_out_word}
use Rattle.tb_parser.proofs.scans.left_out.Given as goal

abbrev pub invariant-loop-i : goal.invariant-loop-i
invariant-loop-i l = left_out_word (drop l.i l.placed) ≡ left_out_word l.placed
