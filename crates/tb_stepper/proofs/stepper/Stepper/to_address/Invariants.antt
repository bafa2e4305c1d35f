-- What holds at each turn of the loop of `Stepper::to_address` in src/stepper.rt.
use Rattle.tb_stepper.specs.History.{Walked}
use Rattle.tb_stepper.proofs.stepper.Stepper.to_address.Given as goal

abbrev pub invariant-loop-taken : goal.invariant-loop-taken
invariant-loop-taken g l = Walked g.O.Outside.gives l.address l.taken l.initial.self l.self
