-- What decreases where `is_watched` in src/breakpoints.rt calls itself.
use Rattle.std.proofs.Common.{length}
use Rattle.tb_debug.proofs.breakpoints.+is_watched.Given as goal

abbrev pub decreases-is_watched : goal.decreases-is_watched
decreases-is_watched l = length l.letters.now
