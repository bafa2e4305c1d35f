-- What holds at each turn of the loop of `push_data` in src/labelled.rt.
use Rattle.std.proofs.Common.{◌≡◌, ◌++◌, drop}
use Rattle.std.specs.Prelude.{codes}
use Rattle.tb_engine_listing.specs.Rows.{bytes_behind}
use Rattle.tb_engine_listing.proofs.labelled.push_data.Given as goal

abbrev pub invariant-loop-byte : goal.invariant-loop-byte
invariant-loop-byte l = l.row.items ++ bytes_behind l.before (drop l.byte-index l.bytes) ≡ l.initial.row.items ++ bytes_behind (codes ".byte $") l.bytes
