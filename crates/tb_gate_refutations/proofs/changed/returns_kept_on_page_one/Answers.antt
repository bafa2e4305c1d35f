use Rattle.tb_gate_refutations.proofs.changed.returns_kept_on_page_one.Goals as goal
use Rattle.tb_gate_refutations.proofs.ChangedImages.{returns_kept_on_page_one}

pub returns : goal.returns
returns c = returns_kept_on_page_one
