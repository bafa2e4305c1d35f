use Rattle.tb_gate_refutations.proofs.changed.poll_only_at_jumps.Goals as goal
use Rattle.tb_gate_refutations.proofs.ChangedImages.{poll_only_at_jumps}

pub returns : goal.returns
returns c = poll_only_at_jumps
