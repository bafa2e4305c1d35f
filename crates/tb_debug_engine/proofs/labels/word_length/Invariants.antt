-- What holds at each turn of the loop of `word_length` in src/labels.rt.
use Rattle.std.proofs.Common.{◌≡◌, ◌+◌, drop}
use Rattle.tb_debug_engine.specs.Labels.{word_length}
use Rattle.tb_debug_engine.proofs.labels.word_length.Given as goal

abbrev pub invariant-loop-i : goal.invariant-loop-i
invariant-loop-i l = l.i + word_length (drop l.i l.text) ≡ word_length l.text
