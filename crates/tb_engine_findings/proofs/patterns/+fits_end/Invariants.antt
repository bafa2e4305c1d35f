-- What decreases where `fits_end` in src/patterns.rt calls itself.
use Rattle.std.proofs.Common.{length}
use Rattle.tb_engine_findings.proofs.patterns.+fits_end.Given as goal

abbrev pub decreases-fits_end : goal.decreases-fits_end
decreases-fits_end l = length l.text.now
