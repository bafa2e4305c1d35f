-- Why `same_among` of src/clashes.rt ends.
use Rattle.std.proofs.Common.{length}
use Rattle.tb_program_reasons.proofs.clashes.+same_among.Given as goal

abbrev pub decreases-same_among : goal.decreases-same_among
decreases-same_among l = length l.others.now
