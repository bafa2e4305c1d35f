-- What holds at each turn of the loop of `behind_number` in src/lines.rt.
use Rattle.std.proofs.Common.{◌≡◌, drop}
use Rattle.tb_basic_source.specs.Lines.{behind_number}
use Rattle.tb_basic_source.proofs.lines.behind_number.Given as goal

abbrev pub invariant-loop-i : goal.invariant-loop-i
invariant-loop-i l = behind_number (drop l.i l.line) ≡ behind_number l.line
