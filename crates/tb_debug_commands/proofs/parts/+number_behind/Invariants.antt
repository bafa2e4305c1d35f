-- What decreases where `number_behind` in src/parts.rt calls itself.
use Rattle.std.proofs.Common.{length}
use Rattle.tb_debug_commands.proofs.parts.+number_behind.Given as goal

abbrev pub decreases-number_behind : goal.decreases-number_behind
decreases-number_behind l = length l.digits.now
