-- The goals of `all_routines` in src/routines.rt.
use Rattle.tb_runtime16.proofs.routines.all_routines.Goals as goal
use Rattle.tb_runtime16.proofs.AllLaws.{all_laws}

pub returns : goal.returns
returns c = all_laws
