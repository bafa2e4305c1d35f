use Rattle.tb_gate_refutations.proofs.starts.start_of_names_dead_bytes.Goals as goal
use Rattle.tb_gate_refutations.proofs.WrongStarts.{start_of_names_dead_bytes}

pub returns : goal.returns
returns c = start_of_names_dead_bytes
