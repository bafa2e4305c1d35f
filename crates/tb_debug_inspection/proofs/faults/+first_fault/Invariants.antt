-- Why `first_fault` of src/faults.rt ends.
use Rattle.std.proofs.Common.{length}
use Rattle.tb_debug_inspection.proofs.faults.+first_fault.Given as goal

abbrev pub decreases-first_fault : goal.decreases-first_fault
decreases-first_fault l = length l.kinds.now
