use Rattle.tb_gate_refutations.proofs.changed.print_values_all_items_first.Goals as goal
use Rattle.tb_gate_refutations.proofs.ChangedImages.{print_values_all_items_first}

pub returns : goal.returns
returns c = print_values_all_items_first
