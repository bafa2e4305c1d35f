-- What holds at each turn of the loop of `push_folded` in src/names.rt.
use Rattle.std.proofs.Common.{◌≡◌, ◌++◌, map, take}
use Rattle.tb_asm.specs.Names.{fold_byte}
use Rattle.tb_assembly_text.proofs.names.push_folded.Given as goal

abbrev pub invariant-loop-byte : goal.invariant-loop-byte
invariant-loop-byte l = l.letters.items ≡ l.initial.letters.items ++ map fold_byte (take l.byte-index l.word)
