-- What holds at each turn of the loop of `digits` in src/spans.rt.
use Rattle.std.proofs.Common.{◌≡◌, ◌+◌, drop}
use Rattle.tb_basic_places.specs.Spans.{digits}
use Rattle.tb_basic_places.proofs.spans.digits.Given as goal

abbrev pub invariant-loop-i : goal.invariant-loop-i
invariant-loop-i l = l.i + digits (drop l.i l.text) ≡ digits l.text
