-- What decreases at each call of `number_from` in src/marks.rt.
use Rattle.std.proofs.Common.{length}
use Rattle.tb_engine_transcripts.proofs.marks.+number_from.Given as goal

abbrev pub decreases-number_from : goal.decreases-number_from
decreases-number_from l = length l.digits.now
