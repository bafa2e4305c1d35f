-- The goals of `fault` in src/routines.rt.
use Rattle.tb_runtime16.proofs.routines.fault.Goals as goal
use Rattle.tb_runtime16.proofs.FaultRuns.{fault_law}

pub returns : goal.returns
returns c = fault_law
