use Rattle.tb_gate_refutations.proofs.changed.quotient_by_256_rounds_down.Goals as goal
use Rattle.tb_gate_refutations.proofs.ChangedImages.{quotient_by_256_rounds_down}

pub returns : goal.returns
returns c = quotient_by_256_rounds_down
