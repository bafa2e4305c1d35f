-- What holds at each turn of the loop of `digits` in src/lines.rt.
use Rattle.std.proofs.Common.{◌≡◌, ◌+◌, drop}
use Rattle.tb_basic_format.specs.Lines.{digits}
use Rattle.tb_basic_format.proofs.lines.digits.Given as goal

abbrev pub invariant-loop-i : goal.invariant-loop-i
invariant-loop-i l = l.i + digits (drop l.i l.text) ≡ digits l.text
