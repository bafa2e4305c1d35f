use Rattle.tb_gate_refutations.proofs.starts.right_start_is_marked.Goals as goal
use Rattle.tb_gate_refutations.proofs.UnchangedImages.{ends_marked}

pub returns : goal.returns
returns c = ends_marked
