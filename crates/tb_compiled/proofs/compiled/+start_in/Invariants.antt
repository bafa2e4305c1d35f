-- What decreases where `start_in` in src/compiled.rt calls itself.
use Rattle.std.proofs.Common.{length}
use Rattle.tb_compiled.proofs.compiled.+start_in.Given as goal

abbrev pub decreases-start_in : goal.decreases-start_in
decreases-start_in l = length l.starts.now
