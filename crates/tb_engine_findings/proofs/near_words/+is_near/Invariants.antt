-- What decreases where `is_near` in src/near_words.rt calls itself.
use Rattle.std.proofs.Common.{length}
use Rattle.tb_engine_findings.proofs.near_words.+is_near.Given as goal

abbrev pub decreases-is_near : goal.decreases-is_near
decreases-is_near l = length l.word.now
