use Rattle.tb_gate_refutations.proofs.changed.negative_is_above_constant.Goals as goal
use Rattle.tb_gate_refutations.proofs.ChangedImages.{negative_is_above_constant}

pub returns : goal.returns
returns c = negative_is_above_constant
