-- What holds at each turn of the loop of `are_name_bytes` in src/lines.rt.
use Rattle.std.proofs.Common.{◌≡◌, drop}
use Rattle.tb_assembly_labels.specs.Lines.{are_name_bytes}
use Rattle.tb_assembly_labels.proofs.lines.are_name_bytes.Given as goal

abbrev pub invariant-loop-byte : goal.invariant-loop-byte
invariant-loop-byte l = are_name_bytes (drop l.byte-index l.bytes) ≡ are_name_bytes l.bytes
