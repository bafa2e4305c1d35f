-- What decreases where `unpaid_by_lines` in src/search.rt calls itself.
use Rattle.std.proofs.Common.{length}
use Rattle.tb_compiler_program.proofs.search.+unpaid_by_lines.Given as goal

abbrev pub decreases-unpaid_by_lines : goal.decreases-unpaid_by_lines
decreases-unpaid_by_lines l = length l.lines.now
