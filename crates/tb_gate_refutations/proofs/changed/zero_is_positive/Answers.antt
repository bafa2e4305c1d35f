use Rattle.tb_gate_refutations.proofs.changed.zero_is_positive.Goals as goal
use Rattle.tb_gate_refutations.proofs.ChangedImages.{zero_is_positive}

pub returns : goal.returns
returns c = zero_is_positive
