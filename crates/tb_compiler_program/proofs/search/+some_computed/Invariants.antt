-- What decreases where `some_computed` in src/search.rt calls itself.
use Rattle.std.proofs.Common.{length}
use Rattle.tb_compiler_program.proofs.search.+some_computed.Given as goal

abbrev pub decreases-some_computed : goal.decreases-some_computed
decreases-some_computed l = length l.list.now
