-- What decreases where `differ` in src/breakpoints.rt calls itself.
use Rattle.std.proofs.Common.{length}
use Rattle.tb_debug.proofs.breakpoints.+differ.Given as goal

abbrev pub decreases-differ : goal.decreases-differ
decreases-differ l = length l.letters.now
