-- The goals of `send` in src/routines.rt.
use Rattle.tb_runtime16.proofs.routines.send.Goals as goal
use Rattle.tb_runtime16.proofs.SendRuns.{send_law}

pub returns : goal.returns
returns c = send_law
