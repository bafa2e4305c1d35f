-- Why `missing_line` of src/faults.rt ends.
use Rattle.std.proofs.Common.{length}
use Rattle.tb_engine_sources.proofs.faults.+missing_line.Given as goal

abbrev pub decreases-missing_line : goal.decreases-missing_line
decreases-missing_line l = length l.warnings.now
