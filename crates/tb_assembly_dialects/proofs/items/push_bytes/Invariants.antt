-- What holds at each turn of the loop of `push_bytes` in src/items.rt.
use Rattle.std.proofs.Common.{◌≡◌, ◌++◌, drop}
use Rattle.tb_assembly_dialects.specs.Dialects.{byte_directive}
use Rattle.tb_assembly_dialects.specs.Items.{bytes_behind}
use Rattle.tb_assembly_dialects.proofs.items.push_bytes.Given as goal

abbrev pub invariant-loop-byte : goal.invariant-loop-byte
invariant-loop-byte l =
    l.text.items ++ bytes_behind l.before (drop l.byte-index l.bytes) ≡ l.initial.text.items ++ bytes_behind (byte_directive l.fn.dialect) l.bytes
