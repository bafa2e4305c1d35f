use Rattle.tb_gate_refutations.proofs.changed.remainder_without_its_sign.Goals as goal
use Rattle.tb_gate_refutations.proofs.ChangedImages.{remainder_without_its_sign}

pub returns : goal.returns
returns c = remainder_without_its_sign
