-- What decreases where `left_by_lines` in src/search.rt calls itself.
use Rattle.std.proofs.Common.{length}
use Rattle.tb_compiler_program.proofs.search.+left_by_lines.Given as goal

abbrev pub decreases-left_by_lines : goal.decreases-left_by_lines
decreases-left_by_lines l = length l.lines.now
