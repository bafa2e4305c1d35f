-- What holds at each turn of the loop of `machine_after` in src/places.rt.
use Rattle.std.proofs.Common.{map, drop}
use Rattle.tb_engine_test.specs.Places.{start_of}
use Rattle.tb_engine_test.proofs.Past.{TypesOn}
use Rattle.tb_engine_test.proofs.places.machine_after.Given as goal

abbrev pub invariant-loop-line : goal.invariant-loop-line
invariant-loop-line g l =
    TypesOn g.O.Outside.gives l.initial.outside (start_of l.program) l.manner (map (λ v. v.items) l.lines)
    l.outside l.machine (map (λ v. v.items) (drop l.line-index l.lines))
