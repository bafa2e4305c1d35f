-- What holds at each turn of the loop of `push_remarks` in src/telling.rt.
use Rattle.std.proofs.Common.{◌≡◌, ◌++◌, drop}
use Rattle.tb_engine_test.specs.Telling.{remarks}
use Rattle.std.specs.Prelude.{true}
use Rattle.tb_engine_test.proofs.telling.push_remarks.Given as goal

abbrev pub invariant-loop-byte : goal.invariant-loop-byte
invariant-loop-byte l = l.text.items ++ remarks l.is_first (drop l.byte-index l.lines) ≡ l.initial.text.items ++ remarks true l.lines
