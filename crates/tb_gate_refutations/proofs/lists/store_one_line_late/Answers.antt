use Rattle.tb_gate_refutations.proofs.lists.store_one_line_late.Goals as goal
use Rattle.tb_gate_refutations.proofs.WrongLists.{store_one_line_late}

pub returns : goal.returns
returns c = store_one_line_late
