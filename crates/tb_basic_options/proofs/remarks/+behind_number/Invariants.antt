-- What `behind_number` in src/remarks.rt calls itself with: less of the line.
use Rattle.std.proofs.Common.{length}
use Rattle.tb_basic_options.proofs.remarks.+behind_number.Given as goal

abbrev pub decreases-behind_number : goal.decreases-behind_number
decreases-behind_number l = length l.line.now
