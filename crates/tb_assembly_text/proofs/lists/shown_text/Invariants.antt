-- What holds at each turn of the loop of `shown_text` in src/lists.rt.
use Rattle.std.proofs.Common.{◌≡◌, map, take}
use Rattle.tb_asm.specs.Names.{fold_byte}
use Rattle.tb_assembly_text.proofs.lists.shown_text.Given as goal

abbrev pub invariant-loop-byte : goal.invariant-loop-byte
invariant-loop-byte l = l.bytes.items ≡ map fold_byte (take l.byte-index l.text)
