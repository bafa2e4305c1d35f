-- What becomes smaller where `spells` in src/names.rt calls itself.
use Rattle.std.proofs.Common.{length}
use Rattle.tb_assembly_text.proofs.names.+spells.Given as goal

abbrev pub decreases-spells : goal.decreases-spells
decreases-spells l = length l.word.now
