-- What decreases where `is_among` in src/breakpoints.rt calls itself.
use Rattle.std.proofs.Common.{length}
use Rattle.tb_debug.proofs.breakpoints.+is_among.Given as goal

abbrev pub decreases-is_among : goal.decreases-is_among
decreases-is_among l = length l.lines.now
