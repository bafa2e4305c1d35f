-- What holds at each turn of the loop of `written_name` in src/near.rt.
use Rattle.std.proofs.Common.{◌≡◌, ◌++◌, drop, take}
use Rattle.tb_basic_signs.specs.Near as spec
use Rattle.tb_basic_signs.proofs.near.written_name.Given as goal

abbrev pub invariant-loop-i : goal.invariant-loop-i
invariant-loop-i l = take l.i l.text ++ spec.written_name (drop l.i l.text) ≡ spec.written_name l.text
