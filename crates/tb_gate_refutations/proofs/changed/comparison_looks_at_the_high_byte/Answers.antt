use Rattle.tb_gate_refutations.proofs.changed.comparison_looks_at_the_high_byte.Goals as goal
use Rattle.tb_gate_refutations.proofs.ChangedImages.{comparison_looks_at_the_high_byte}

pub returns : goal.returns
returns c = comparison_looks_at_the_high_byte
