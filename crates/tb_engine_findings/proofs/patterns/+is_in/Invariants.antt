-- What decreases where `is_in` in src/patterns.rt calls itself.
use Rattle.std.proofs.Common.{length}
use Rattle.tb_engine_findings.proofs.patterns.+is_in.Given as goal

abbrev pub decreases-is_in : goal.decreases-is_in
decreases-is_in l = length l.text.now
