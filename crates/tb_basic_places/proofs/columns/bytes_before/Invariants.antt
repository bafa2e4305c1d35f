-- What holds at each turn of the loop of `bytes_before` in src/columns.rt.
use Rattle.std.proofs.Common.{◌≡◌, ◌+◌, drop}
use Rattle.tb_basic_places.specs.Columns.{place_at}
use Rattle.tb_basic_places.proofs.columns.bytes_before.Given as goal

abbrev pub invariant-loop-i : goal.invariant-loop-i
invariant-loop-i l = l.i + place_at l.left (drop l.i l.bytes) ≡ place_at l.column l.bytes
