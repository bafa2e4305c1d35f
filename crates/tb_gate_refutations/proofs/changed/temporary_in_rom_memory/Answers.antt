use Rattle.tb_gate_refutations.proofs.changed.temporary_in_rom_memory.Goals as goal
use Rattle.tb_gate_refutations.proofs.ChangedImages.{temporary_in_rom_memory}

pub returns : goal.returns
returns c = temporary_in_rom_memory
