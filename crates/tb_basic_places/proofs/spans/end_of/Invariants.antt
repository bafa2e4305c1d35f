-- What holds at each turn of the loop of `end_of` in src/spans.rt.
use Rattle.std.proofs.Common.{◌≡◌, ◌≤◌, drop}
use Rattle.tb_basic_places.specs.Spans.{end_from}
use Rattle.tb_basic_places.proofs.spans.end_of.Given as goal

abbrev pub invariant-loop-i : goal.invariant-loop-i
invariant-loop-i l = (end_from l.i l.end (drop l.i l.text) ≡ end_from 0 0 l.text) × (l.end ≤ l.i)
