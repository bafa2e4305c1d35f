use Rattle.tb_gate_refutations.proofs.changed.folding_drops_division_by_zero.Goals as goal
use Rattle.tb_gate_refutations.proofs.ChangedImages.{folding_drops_division_by_zero}

pub returns : goal.returns
returns c = folding_drops_division_by_zero
