-- The goals of `push` in src/routines.rt.
use Rattle.tb_runtime16.proofs.routines.push.Goals as goal
use Rattle.tb_runtime16.proofs.ReturnsRuns.{push_law}

pub returns : goal.returns
returns c = push_law
