use Rattle.tb_gate_refutations.proofs.changed.remainder_after_four_differences.Goals as goal
use Rattle.tb_gate_refutations.proofs.ChangedImages.{remainder_after_four_differences}

pub returns : goal.returns
returns c = remainder_after_four_differences
