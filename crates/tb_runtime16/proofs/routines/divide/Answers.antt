-- The goals of `divide` in src/routines.rt.
use Rattle.tb_runtime16.proofs.routines.divide.Goals as goal
use Rattle.tb_runtime16.proofs.DivideRuns.{divide_law}

pub returns : goal.returns
returns c = divide_law
