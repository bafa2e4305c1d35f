-- What holds at each turn of the loop of `jump_word` in src/jumps.rt.
use Rattle.std.proofs.Common.{◌≡◌, drop}
use Rattle.tb_basic_names.specs.Jumps.{word_from}
use Rattle.tb_basic_names.proofs.jumps.jump_word.Given as goal

abbrev pub invariant-loop-i : goal.invariant-loop-i
invariant-loop-i l = word_from l.i (drop l.i l.tokens) ≡ word_from 0 l.tokens
