-- What decreases where `unpaid_by_list` in src/search.rt calls itself.
use Rattle.std.proofs.Common.{length}
use Rattle.tb_compiler_program.proofs.search.+unpaid_by_list.Given as goal

abbrev pub decreases-unpaid_by_list : goal.decreases-unpaid_by_list
decreases-unpaid_by_list l = length l.list.now
