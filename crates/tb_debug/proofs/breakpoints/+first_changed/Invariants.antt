-- What decreases where `first_changed` in src/breakpoints.rt calls itself.
use Rattle.std.proofs.Common.{length}
use Rattle.tb_debug.proofs.breakpoints.+first_changed.Given as goal

abbrev pub decreases-first_changed : goal.decreases-first_changed
decreases-first_changed l = length l.letters.now
