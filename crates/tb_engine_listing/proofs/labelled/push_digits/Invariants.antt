-- What holds at each turn of the loop of `push_digits` in src/labelled.rt.
use Rattle.std.proofs.Common.{◌≡◌, ◌++◌, drop}
use Rattle.tb_engine_listing.specs.Rows.{spaced}
use Rattle.tb_engine_listing.proofs.labelled.push_digits.Given as goal

abbrev pub invariant-loop-byte : goal.invariant-loop-byte
invariant-loop-byte l = l.row.items ++ spaced (drop l.byte-index l.bytes) ≡ l.initial.row.items ++ spaced l.bytes
