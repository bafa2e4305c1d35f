-- The goals of `number` in src/routines.rt.
use Rattle.tb_runtime16.proofs.routines.number.Goals as goal
use Rattle.tb_runtime16.proofs.NumberRuns.{number_law}

pub returns : goal.returns
returns c = number_law
