-- What decreases at each call of `behind` in src/marks.rt.
use Rattle.std.proofs.Common.{length}
use Rattle.tb_engine_transcripts.proofs.marks.+behind.Given as goal

abbrev pub decreases-behind : goal.decreases-behind
decreases-behind l = length l.text.now
