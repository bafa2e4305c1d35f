-- The goals of `multiply` in src/routines.rt.
use Rattle.tb_runtime16.proofs.routines.multiply.Goals as goal
use Rattle.tb_runtime16.proofs.MultiplyRuns.{multiply_law}

pub returns : goal.returns
returns c = multiply_law
