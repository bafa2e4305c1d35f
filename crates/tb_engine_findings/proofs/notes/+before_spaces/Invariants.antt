-- What decreases where `before_spaces` in src/notes.rt calls itself.
use Rattle.std.proofs.Common.{length}
use Rattle.tb_engine_findings.proofs.notes.+before_spaces.Given as goal

abbrev pub decreases-before_spaces : goal.decreases-before_spaces
decreases-before_spaces l = length l.text.now
