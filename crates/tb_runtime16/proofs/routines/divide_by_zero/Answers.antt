-- The goals of `divide_by_zero` in src/routines.rt.
use Rattle.tb_runtime16.proofs.routines.divide_by_zero.Goals as goal
use Rattle.tb_runtime16.proofs.DivideRuns.{divide_by_zero_law}

pub returns : goal.returns
returns c = divide_by_zero_law
