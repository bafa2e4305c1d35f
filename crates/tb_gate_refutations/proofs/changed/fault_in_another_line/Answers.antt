use Rattle.tb_gate_refutations.proofs.changed.fault_in_another_line.Goals as goal
use Rattle.tb_gate_refutations.proofs.ChangedImages.{fault_in_another_line}

pub returns : goal.returns
returns c = fault_in_another_line
