use Rattle.tb_gate_refutations.proofs.lists.lower_gives_empty_lists.Goals as goal
use Rattle.tb_gate_refutations.proofs.WrongLists.{lower_gives_empty_lists}

pub returns : goal.returns
returns c = lower_gives_empty_lists
