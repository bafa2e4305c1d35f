-- What decreases where `first_at` in src/readings.rt calls itself.
use Rattle.std.proofs.Common.{length}
use Rattle.tb_debug.proofs.readings.+first_at.Given as goal

abbrev pub decreases-first_at : goal.decreases-first_at
decreases-first_at l = length l.starts.now
