use Rattle.tb_gate_refutations.proofs.changed.temporary_below_s.Goals as goal
use Rattle.tb_gate_refutations.proofs.ChangedImages.{temporary_below_s}

pub returns : goal.returns
returns c = temporary_below_s
