-- What holds at each turn of the loop of `past_word` in src/words.rt.
use Rattle.std.proofs.Common.{◌≡◌, drop}
use Rattle.tb_assembly_reasons.specs.Words.{past_word}
use Rattle.tb_assembly_reasons.proofs.words.past_word.Given as goal

abbrev pub invariant-loop-i : goal.invariant-loop-i
invariant-loop-i l = past_word (drop l.i l.text) ≡ past_word l.text
