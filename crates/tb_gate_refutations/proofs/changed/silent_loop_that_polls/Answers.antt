use Rattle.tb_gate_refutations.proofs.changed.silent_loop_that_polls.Goals as goal
use Rattle.tb_gate_refutations.proofs.PollingLoop.{silent_loop_that_polls}

pub returns : goal.returns
returns c = silent_loop_that_polls
