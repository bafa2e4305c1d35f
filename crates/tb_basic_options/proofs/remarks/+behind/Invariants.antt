-- What `behind` in src/remarks.rt calls itself with: less of the text.
use Rattle.std.proofs.Common.{length}
use Rattle.tb_basic_options.proofs.remarks.+behind.Given as goal

abbrev pub decreases-behind : goal.decreases-behind
decreases-behind l = length l.text.now
