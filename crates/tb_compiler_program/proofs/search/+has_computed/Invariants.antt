-- What decreases where `has_computed` in src/search.rt calls itself.
use Rattle.std.proofs.Common.{length}
use Rattle.tb_compiler_program.proofs.search.+has_computed.Given as goal

abbrev pub decreases-has_computed : goal.decreases-has_computed
decreases-has_computed l = length l.lines.now
