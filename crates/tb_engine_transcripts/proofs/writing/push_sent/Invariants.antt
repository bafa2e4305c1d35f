-- What holds at each turn of the loop of `push_sent` in src/writing.rt.
use Rattle.std.proofs.Common.{◌≡◌, ◌++◌, length, map}
use Rattle.std.specs.Prelude.{flat_map}
use Rattle.tb_engine_transcripts.specs.Writing.{ended, marked, pieces}
use Rattle.tb_engine_transcripts.proofs.writing.push_sent.Given as goal

abbrev pub invariant-loop-piece : goal.invariant-loop-piece
invariant-loop-piece l = l.text.items ++ flat_map ended (map marked (pieces l.rest)) ≡ l.initial.text.items ++ flat_map ended (map marked (pieces l.sent))

abbrev pub decreases-loop-piece : goal.decreases-loop-piece
decreases-loop-piece l = length l.rest
