use Rattle.tb_gate_refutations.proofs.changed.comparison_by_wrapped_difference.Goals as goal
use Rattle.tb_gate_refutations.proofs.ChangedImages.{comparison_by_wrapped_difference}

pub returns : goal.returns
returns c = comparison_by_wrapped_difference
