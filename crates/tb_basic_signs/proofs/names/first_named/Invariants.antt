-- What holds at each turn of the loop of `first_named` in src/names.rt.
use Rattle.std.proofs.Common.{◌≡◌, drop, map}
use Rattle.tb_basic_signs.specs.Names as spec
use Rattle.tb_basic_signs.proofs.names.first_named.Given as goal

abbrev pub invariant-loop-control : goal.invariant-loop-control
invariant-loop-control l =
    spec.first_named l.name (map (λ c. spec.control c.0.now c.1) (drop l.control-index l.controls))
    ≡ spec.first_named l.name (map (λ c. spec.control c.0.now c.1) l.controls)
