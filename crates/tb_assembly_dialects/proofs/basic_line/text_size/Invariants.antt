-- What holds at each turn of the loop of `text_size` in src/basic_line.rt.
use Rattle.std.proofs.Common.{◌≡◌, ◌+◌, drop}
use Rattle.tb_assembly_dialects.specs.BasicLine.{text_size}
use Rattle.tb_assembly_dialects.proofs.basic_line.text_size.Given as goal

abbrev pub invariant-loop-byte : goal.invariant-loop-byte
invariant-loop-byte l = record {
  counted : l.size + text_size (drop l.byte-index l.bytes) ≡ text_size l.bytes;
  passed : l.size ≡ l.byte-index;
}
