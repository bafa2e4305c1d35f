-- What decreases where `letters_at_end` in src/notes.rt calls itself.
use Rattle.std.proofs.Common.{length}
use Rattle.tb_engine_findings.proofs.notes.+letters_at_end.Given as goal

abbrev pub decreases-letters_at_end : goal.decreases-letters_at_end
decreases-letters_at_end l = length l.text.now
