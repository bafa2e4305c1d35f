-- What holds at each turn of the loop of `nearest` in src/near.rt.
use Rattle.std.proofs.Common.{◌≡◌, ◌/◌, ◌+◌, drop, length, map, option_map}
use Rattle.tb_basic_signs.specs.Near as spec
use Rattle.tb_basic_signs.specs.Names.{control}
use Rattle.tb_basic_signs.proofs.near.nearest.Given as goal

abbrev pub invariant-loop-control : goal.invariant-loop-control
invariant-loop-control l =
    spec.nearest_from l.word l.least (option_map (λ n. n.now) l.found) (map (λ c. control c.0.now c.1) (drop l.control-index l.controls))
    ≡ spec.nearest l.word (length l.word / 2 + 1) (map (λ c. control c.0.now c.1) l.controls)
