-- What holds at each turn of the loop of `closing` in src/characters.rt.
use Rattle.std.proofs.Common.{◌≡◌, drop}
use Rattle.tb_basic_signs.specs.Characters as spec
use Rattle.tb_basic_signs.proofs.characters.closing.Given as goal

abbrev pub invariant-loop-i : goal.invariant-loop-i
invariant-loop-i l = spec.closing l.i (drop l.i l.inside) ≡ spec.closing 0 l.inside
