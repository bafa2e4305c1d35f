use Rattle.tb_gate_refutations.proofs.changed.takes_no_break.Goals as goal
use Rattle.tb_gate_refutations.proofs.ChangedImages.{takes_no_break}

pub returns : goal.returns
returns c = takes_no_break
