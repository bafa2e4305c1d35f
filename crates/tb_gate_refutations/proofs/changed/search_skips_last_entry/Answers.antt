use Rattle.tb_gate_refutations.proofs.changed.search_skips_last_entry.Goals as goal
use Rattle.tb_gate_refutations.proofs.ChangedImages.{search_skips_last_entry}

pub returns : goal.returns
returns c = search_skips_last_entry
