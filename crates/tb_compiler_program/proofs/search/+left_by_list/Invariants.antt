-- What decreases where `left_by_list` in src/search.rt calls itself.
use Rattle.std.proofs.Common.{length}
use Rattle.tb_compiler_program.proofs.search.+left_by_list.Given as goal

abbrev pub decreases-left_by_list : goal.decreases-left_by_list
decreases-left_by_list l = length l.list.now
