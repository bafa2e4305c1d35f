-- What holds at each turn of the loop of `push_all_escaped` in src/cells.rt.
use Rattle.std.proofs.Common.{◌≡◌, ◌++◌, take}
use Rattle.std.specs.Prelude.{flat_map}
use Rattle.tb_engine_profile_table.specs.Cells.{escaped}
use Rattle.tb_engine_profile_table.proofs.cells.push_all_escaped.Given as goal

abbrev pub invariant-loop-byte : goal.invariant-loop-byte
invariant-loop-byte l = l.text.items ≡ l.initial.text.items ++ flat_map escaped (take l.byte-index l.bytes)
