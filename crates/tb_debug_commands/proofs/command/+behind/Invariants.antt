-- What decreases where `behind` in src/command.rt calls itself.
use Rattle.std.proofs.Common.{length}
use Rattle.tb_debug_commands.proofs.command.+behind.Given as goal

abbrev pub decreases-behind : goal.decreases-behind
decreases-behind l = length l.word.now
