-- What holds at each turn of the loop of `past_digits` in src/words.rt.
use Rattle.std.proofs.Common.{◌≡◌, drop}
use Rattle.tb_assembly_reasons.specs.Words.{past_digits}
use Rattle.tb_assembly_reasons.proofs.words.past_digits.Given as goal

abbrev pub invariant-loop-i : goal.invariant-loop-i
invariant-loop-i l = past_digits (drop l.i l.text) ≡ past_digits l.text
