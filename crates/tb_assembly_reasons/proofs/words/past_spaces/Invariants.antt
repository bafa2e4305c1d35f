-- What holds at each turn of the loop of `past_spaces` in src/words.rt.
use Rattle.std.proofs.Common.{◌≡◌, drop}
use Rattle.tb_assembly_reasons.specs.Words.{past_spaces}
use Rattle.tb_assembly_reasons.proofs.words.past_spaces.Given as goal

abbrev pub invariant-loop-i : goal.invariant-loop-i
invariant-loop-i l = past_spaces (drop l.i l.text) ≡ past_spaces l.text
