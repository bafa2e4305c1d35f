-- The goals of `random_range` in src/routines.rt.
use Rattle.tb_runtime16.proofs.routines.random_range.Goals as goal
use Rattle.tb_runtime16.proofs.RandomRuns.{random_range_law}

pub returns : goal.returns
returns c = random_range_law
