-- What decreases where `after_digits` in src/notes.rt calls itself.
use Rattle.std.proofs.Common.{length}
use Rattle.tb_engine_findings.proofs.notes.+after_digits.Given as goal

abbrev pub decreases-after_digits : goal.decreases-after_digits
decreases-after_digits l = length l.text.now
