-- What holds at each turn of the loop of `letters` in src/spans.rt.
use Rattle.std.proofs.Common.{◌≡◌, ◌+◌, drop}
use Rattle.tb_basic_places.specs.Spans.{letters}
use Rattle.tb_basic_places.proofs.spans.letters.Given as goal

abbrev pub invariant-loop-i : goal.invariant-loop-i
invariant-loop-i l = l.i + letters (drop l.i l.text) ≡ letters l.text
