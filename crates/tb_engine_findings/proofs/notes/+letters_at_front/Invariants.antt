-- What decreases where `letters_at_front` in src/notes.rt calls itself.
use Rattle.std.proofs.Common.{length}
use Rattle.tb_engine_findings.proofs.notes.+letters_at_front.Given as goal

abbrev pub decreases-letters_at_front : goal.decreases-letters_at_front
decreases-letters_at_front l = length l.text.now
