-- Why `first_clash` of src/clashes.rt ends.
use Rattle.std.proofs.Common.{length}
use Rattle.tb_program_reasons.proofs.clashes.+first_clash.Given as goal

abbrev pub decreases-first_clash : goal.decreases-first_clash
decreases-first_clash l = length l.written.now
