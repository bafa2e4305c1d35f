use Rattle.tb_gate_refutations.proofs.changed.returns_where_source_loops.Goals as goal
use Rattle.tb_gate_refutations.proofs.ChangedImages.{returns_where_source_loops}

pub returns : goal.returns
returns c = returns_where_source_loops
