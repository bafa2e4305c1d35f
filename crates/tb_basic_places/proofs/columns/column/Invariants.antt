-- What holds at each turn of the loop of `column` in src/columns.rt.
use Rattle.std.proofs.Common.{◌≡◌, ◌*◌, ◌≤◌, take}
use Rattle.tb_basic_places.specs.Columns.{units_of}
use Rattle.tb_basic_places.proofs.columns.column.Given as goal

abbrev pub invariant-loop-byte : goal.invariant-loop-byte
invariant-loop-byte l = (l.sum ≡ units_of (take l.byte-index l.bytes)) × (l.sum ≤ 2 * l.byte-index)
