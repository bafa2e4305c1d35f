-- What decreases where `lacks_relation` in src/surroundings.rt calls itself.
use Rattle.std.proofs.Common.{length}
use Rattle.tb_engine_findings.proofs.surroundings.+lacks_relation.Given as goal

abbrev pub decreases-lacks_relation : goal.decreases-lacks_relation
decreases-lacks_relation l = length l.code.now
