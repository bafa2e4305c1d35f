-- The goals of `divide_unsigned` in src/routines.rt.
use Rattle.tb_runtime16.proofs.routines.divide_unsigned.Goals as goal
use Rattle.tb_runtime16.proofs.UnsignedRuns.{unsigned_law}

pub returns : goal.returns
returns c = unsigned_law
