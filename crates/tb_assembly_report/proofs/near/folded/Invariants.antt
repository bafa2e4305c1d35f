-- What holds at each turn of the loop of `folded` in src/near.rt.
use Rattle.std.proofs.Common.{◌≡◌, take, map}
use Rattle.tb_asm.specs.Names.{fold_byte}
use Rattle.tb_assembly_report.proofs.near.folded.Given as goal

abbrev pub invariant-loop-byte : goal.invariant-loop-byte
invariant-loop-byte l = l.letters.items ≡ map fold_byte (take l.byte-index l.word)
