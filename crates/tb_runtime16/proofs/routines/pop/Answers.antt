-- The goals of `pop` in src/routines.rt.
use Rattle.tb_runtime16.proofs.routines.pop.Goals as goal
use Rattle.tb_runtime16.proofs.ReturnsRuns.{pop_law}

pub returns : goal.returns
returns c = pop_law
