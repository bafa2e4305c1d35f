-- The goals of `prologue` in src/routines.rt.
use Rattle.tb_runtime16.proofs.routines.prologue.Goals as goal
use Rattle.tb_runtime16.proofs.PrologueRuns.{prologue_law}

pub returns : goal.returns
returns c = prologue_law
