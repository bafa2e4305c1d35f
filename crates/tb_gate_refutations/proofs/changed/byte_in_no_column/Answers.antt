use Rattle.tb_gate_refutations.proofs.changed.byte_in_no_column.Goals as goal
use Rattle.tb_gate_refutations.proofs.ChangedImages.{byte_in_no_column}

pub returns : goal.returns
returns c = byte_in_no_column
