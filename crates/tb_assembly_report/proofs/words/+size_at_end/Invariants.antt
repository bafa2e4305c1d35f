-- What decreases where `size_at_end` in src/words.rt calls itself.
use Rattle.std.proofs.Common.{length}
use Rattle.tb_assembly_report.proofs.words.+size_at_end.Given as goal

abbrev pub decreases-size_at_end : goal.decreases-size_at_end
decreases-size_at_end l = length l.text.now
