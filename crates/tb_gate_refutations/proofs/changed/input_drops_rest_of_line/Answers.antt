use Rattle.tb_gate_refutations.proofs.changed.input_drops_rest_of_line.Goals as goal
use Rattle.tb_gate_refutations.proofs.ChangedImages.{input_drops_rest_of_line}

pub returns : goal.returns
returns c = input_drops_rest_of_line
