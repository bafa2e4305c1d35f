-- The goals of `fault_line` in src/routines.rt.
use Rattle.tb_runtime16.proofs.routines.fault_line.Goals as goal
use Rattle.tb_runtime16.proofs.FaultRuns.{fault_line_law}

pub returns : goal.returns
returns c = fault_line_law
