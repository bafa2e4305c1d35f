-- What holds at each turn of the loop of `from_byte` in src/words.rt.
use Rattle.std.proofs.Common.{◌≡◌, drop}
use Rattle.tb_assembly_reasons.specs.Words.{from_byte}
use Rattle.tb_assembly_reasons.proofs.words.from_byte.Given as goal

abbrev pub invariant-loop-i : goal.invariant-loop-i
invariant-loop-i l = from_byte l.wanted (drop l.i l.text) ≡ from_byte l.wanted l.text
