-- What holds at each turn of the loop of `push_shown` in src/showing.rt.
use Rattle.std.proofs.Common.{◌≡◌, ◌++◌, map, take}
use Rattle.tb_basic_source.specs.ShownBytes.{shown}
use Rattle.tb_basic_source.proofs.showing.push_shown.Given as goal

abbrev pub invariant-loop-byte : goal.invariant-loop-byte
invariant-loop-byte l = l.text.items ≡ l.initial.text.items ++ map shown (take l.byte-index l.bytes)
