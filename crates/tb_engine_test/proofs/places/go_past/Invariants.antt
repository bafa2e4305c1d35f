-- What holds at each turn of the loop of `go_past` in src/places.rt.
use Rattle.tb_engine_test.proofs.Past.{Passes}
use Rattle.tb_engine_test.proofs.places.go_past.Given as goal

abbrev pub invariant-loop : goal.invariant-loop
invariant-loop g l = Passes g.O.Outside.gives l.initial.outside l.initial.machine l.manner l.room l.outside l.machine l.left l.counter
