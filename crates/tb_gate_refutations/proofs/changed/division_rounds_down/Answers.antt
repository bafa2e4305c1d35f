use Rattle.tb_gate_refutations.proofs.changed.division_rounds_down.Goals as goal
use Rattle.tb_gate_refutations.proofs.ChangedImages.{division_rounds_down}

pub returns : goal.returns
returns c = division_rounds_down
