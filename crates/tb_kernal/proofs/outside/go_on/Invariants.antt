-- What holds at each turn of the loop of `go_on` in src/outside.rt.
use Rattle.std.proofs.Common.{◌≡◌, List, length}
use Rattle.tb_kernal.specs.declared.events.Event.{Event}
use Rattle.tb_kernal.specs.Runs.{Gave, KeepsRoom}
use Rattle.tb_kernal.proofs.outside.go_on.Given as goal

abbrev pub invariant-loop-done : goal.invariant-loop-done
invariant-loop-done g l =
    ((es : List Event) × (length es ≡ l.done) × Gave g.O.Outside.gives l.fn.outside l.fn.machine es l.outside l.machine)
    × KeepsRoom l.fn.machine l.machine
