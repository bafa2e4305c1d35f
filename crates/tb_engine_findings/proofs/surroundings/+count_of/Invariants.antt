-- What decreases where `count_of` in src/surroundings.rt calls itself.
use Rattle.std.proofs.Common.{length}
use Rattle.tb_engine_findings.proofs.surroundings.+count_of.Given as goal

abbrev pub decreases-count_of : goal.decreases-count_of
decreases-count_of l = length l.code.now
