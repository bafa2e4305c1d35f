-- What decreases where `after_spaces` in src/notes.rt calls itself.
use Rattle.std.proofs.Common.{length}
use Rattle.tb_engine_findings.proofs.notes.+after_spaces.Given as goal

abbrev pub decreases-after_spaces : goal.decreases-after_spaces
decreases-after_spaces l = length l.text.now
