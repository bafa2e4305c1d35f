-- What holds at each turn of the loop of `push_rows` in src/addresses.rt.
use Rattle.std.proofs.Common.{◌≡◌, ◌++◌, take}
use Rattle.std.specs.Prelude.{flat_map}
use Rattle.tb_memmap.specs.Bytes.{at}
use Rattle.tb_engine_profile_table.specs.Addresses.{address_row}
use Rattle.tb_engine_profile_table.proofs.addresses.push_rows.Given as goal

abbrev pub invariant-loop-row : goal.invariant-loop-row
invariant-loop-row l = l.text.items ≡ l.initial.text.items ++ flat_map (address_row (at l.memory) l.all) (take l.row-index l.rows)
