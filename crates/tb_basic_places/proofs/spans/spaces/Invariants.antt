-- What holds at each turn of the loop of `spaces` in src/spans.rt.
use Rattle.std.proofs.Common.{◌≡◌, ◌+◌, drop}
use Rattle.tb_basic_places.specs.Spans.{spaces}
use Rattle.tb_basic_places.proofs.spans.spaces.Given as goal

abbrev pub invariant-loop-i : goal.invariant-loop-i
invariant-loop-i l = l.i + spaces (drop l.i l.text) ≡ spaces l.text
