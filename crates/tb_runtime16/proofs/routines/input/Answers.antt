-- The goals of `input` in src/routines.rt.
use Rattle.tb_runtime16.proofs.routines.input.Goals as goal
use Rattle.tb_runtime16.proofs.InputRuns.{input_law}

pub returns : goal.returns
returns c = input_law
