-- The goals of `pop_none` in src/routines.rt.
use Rattle.tb_runtime16.proofs.routines.pop_none.Goals as goal
use Rattle.tb_runtime16.proofs.ReturnsRuns.{pop_none_law}

pub returns : goal.returns
returns c = pop_none_law
