-- The goals of `step` in src/theory.rt.
use Rattle.tb_machine_reaching.proofs.theory.step.Goals as goal
use Rattle.tb_machine_reaching.specs.Laws.{Passes}
use Rattle.tb_machine_reaching.proofs.Laws.{step}

pub returns : goal.returns
returns c w p q t one = step (Passes w) (Passes p) (Passes q) t one
