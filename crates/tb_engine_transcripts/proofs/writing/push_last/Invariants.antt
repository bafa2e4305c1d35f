-- What holds at each turn of the loop of `push_last` in src/writing.rt.
use Rattle.std.proofs.Common.{◌≡◌, ◌++◌, length}
use Rattle.std.specs.Prelude.{flat_map}
use Rattle.tb_engine_transcripts.specs.Writing.{ended, last_lines, pieces}
use Rattle.tb_engine_transcripts.proofs.writing.push_last.Given as goal

abbrev pub invariant-loop-piece : goal.invariant-loop-piece
invariant-loop-piece l = l.text.items ++ flat_map ended (last_lines (pieces l.rest)) ≡ l.initial.text.items ++ flat_map ended (last_lines (pieces l.sent))

abbrev pub decreases-loop-piece : goal.decreases-loop-piece
decreases-loop-piece l = length l.rest
