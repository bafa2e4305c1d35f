-- What decreases where `fits_front` in src/patterns.rt calls itself.
use Rattle.std.proofs.Common.{length}
use Rattle.tb_engine_findings.proofs.patterns.+fits_front.Given as goal

abbrev pub decreases-fits_front : goal.decreases-fits_front
decreases-fits_front l = length l.text.now
