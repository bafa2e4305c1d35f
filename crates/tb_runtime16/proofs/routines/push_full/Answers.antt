-- The goals of `push_full` in src/routines.rt.
use Rattle.tb_runtime16.proofs.routines.push_full.Goals as goal
use Rattle.tb_runtime16.proofs.ReturnsRuns.{push_full_law}

pub returns : goal.returns
returns c = push_full_law
