-- The goals of `poll` in src/routines.rt.
use Rattle.tb_runtime16.proofs.routines.poll.Goals as goal
use Rattle.tb_runtime16.proofs.PollRuns.{poll_law}

pub returns : goal.returns
returns c = poll_law
