use Rattle.tb_gate_refutations.proofs.changed.missing_line.Goals as goal
use Rattle.tb_gate_refutations.proofs.ChangedImages.{missing_line}

pub returns : goal.returns
returns c = missing_line
