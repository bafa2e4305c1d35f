use Rattle.tb_gate_refutations.proofs.changed.high_byte_is_not_tested.Goals as goal
use Rattle.tb_gate_refutations.proofs.ChangedImages.{high_byte_is_not_tested}

pub returns : goal.returns
returns c = high_byte_is_not_tested
