-- What holds at each turn of the loop of `last_word` in src/spans.rt.
use Rattle.std.proofs.Common.{◌≡◌, ◌≤◌, drop}
use Rattle.tb_basic_places.specs.Spans.{last_word}
use Rattle.tb_basic_places.proofs.spans.last_word.Given as goal

abbrev pub invariant-loop-i : goal.invariant-loop-i
invariant-loop-i l = (last_word l.i l.start (drop l.i l.text) ≡ last_word 0 0 l.text) × (l.start ≤ l.i)
