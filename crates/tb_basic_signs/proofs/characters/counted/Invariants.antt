-- What holds at each turn of the loop of `counted` in src/characters.rt.
use Rattle.std.proofs.Common.{◌≡◌, ◌≤◌, length}
use Rattle.tb_basic_signs.specs.Characters as spec
use Rattle.tb_basic_signs.proofs.characters.counted.Given as goal

abbrev pub invariant-loop-rest : goal.invariant-loop-rest
invariant-loop-rest l = record {
  so_far : spec.counted l.times l.rest ≡ spec.counted 0 l.fn.content;
  bound : l.times ≤ 256;
}

abbrev pub decreases-loop-rest : goal.decreases-loop-rest
decreases-loop-rest l = length l.rest
