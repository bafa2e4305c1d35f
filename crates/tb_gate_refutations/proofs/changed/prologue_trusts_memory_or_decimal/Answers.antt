use Rattle.tb_gate_refutations.proofs.changed.prologue_trusts_memory_or_decimal.Goals as goal
use Rattle.tb_gate_refutations.proofs.ChangedImages.{prologue_trusts_memory_or_decimal}

pub returns : goal.returns
returns c = prologue_trusts_memory_or_decimal
