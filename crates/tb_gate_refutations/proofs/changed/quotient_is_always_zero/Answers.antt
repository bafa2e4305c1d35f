use Rattle.tb_gate_refutations.proofs.changed.quotient_is_always_zero.Goals as goal
use Rattle.tb_gate_refutations.proofs.ChangedImages.{quotient_is_always_zero}

pub returns : goal.returns
returns c = quotient_is_always_zero
