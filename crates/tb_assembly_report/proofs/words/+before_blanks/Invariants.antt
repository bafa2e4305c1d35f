-- What decreases where `before_blanks` in src/words.rt calls itself.
use Rattle.std.proofs.Common.{length}
use Rattle.tb_assembly_report.proofs.words.+before_blanks.Given as goal

abbrev pub decreases-before_blanks : goal.decreases-before_blanks
decreases-before_blanks l = length l.text.now
