-- What `with_lines` in src/options.rt calls itself with: fewer lines that are left.
use Rattle.tb_basic_options.proofs.options.+with_lines.Given as goal

abbrev pub decreases-with_lines : goal.decreases-with_lines
decreases-with_lines l = l.left
