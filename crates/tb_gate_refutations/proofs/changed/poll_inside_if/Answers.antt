use Rattle.tb_gate_refutations.proofs.changed.poll_inside_if.Goals as goal
use Rattle.tb_gate_refutations.proofs.ChangedImages.{poll_inside_if}

pub returns : goal.returns
returns c = poll_inside_if
