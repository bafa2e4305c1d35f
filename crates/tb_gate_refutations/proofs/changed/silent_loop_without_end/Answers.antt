use Rattle.tb_gate_refutations.proofs.changed.silent_loop_without_end.Goals as goal
use Rattle.tb_gate_refutations.proofs.ChangedImages.{silent_loop_without_end}

pub returns : goal.returns
returns c = silent_loop_without_end
