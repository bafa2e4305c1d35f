use Rattle.tb_gate_refutations.proofs.changed.return_goes_by_the_result.Goals as goal
use Rattle.tb_gate_refutations.proofs.ChangedImages.{return_goes_by_the_result}

pub returns : goal.returns
returns c = return_goes_by_the_result
