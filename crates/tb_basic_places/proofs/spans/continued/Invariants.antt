-- What holds at each turn of the loop of `continued` in src/spans.rt.
use Rattle.std.proofs.Common.{◌≡◌, ◌+◌, drop}
use Rattle.tb_basic_places.specs.Spans.{continued}
use Rattle.tb_basic_places.proofs.spans.continued.Given as goal

abbrev pub invariant-loop-i : goal.invariant-loop-i
invariant-loop-i l = l.i + continued (drop l.i l.text) ≡ continued l.text
