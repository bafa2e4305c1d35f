-- The goals of `random` in src/routines.rt.
use Rattle.tb_runtime16.proofs.routines.random.Goals as goal
use Rattle.tb_runtime16.proofs.RandomRuns.{random_law}

pub returns : goal.returns
returns c = random_law
