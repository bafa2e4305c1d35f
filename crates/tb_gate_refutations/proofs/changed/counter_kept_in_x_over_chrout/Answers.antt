use Rattle.tb_gate_refutations.proofs.changed.counter_kept_in_x_over_chrout.Goals as goal
use Rattle.tb_gate_refutations.proofs.ChangedImages.{counter_kept_in_x_over_chrout}

pub returns : goal.returns
returns c = counter_kept_in_x_over_chrout
