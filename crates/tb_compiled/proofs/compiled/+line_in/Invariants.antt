-- What decreases where `line_in` in src/compiled.rt calls itself.
use Rattle.std.proofs.Common.{length}
use Rattle.tb_compiled.proofs.compiled.+line_in.Given as goal

abbrev pub decreases-line_in : goal.decreases-line_in
decreases-line_in l = length l.starts.now
