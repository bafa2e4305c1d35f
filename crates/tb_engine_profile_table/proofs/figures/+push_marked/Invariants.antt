-- What falls in each call of `push_marked` in src/figures.rt.
use Rattle.std.proofs.Common.{length}
use Rattle.tb_engine_profile_table.proofs.figures.+push_marked.Given as goal

abbrev pub decreases-push_marked : goal.decreases-push_marked
decreases-push_marked l = length l.digits.now
