-- What holds at each turn of the loop of `same_turns` in src/comparing.rt.
use Rattle.std.proofs.Common.{◌≡◌, ◌≤◌, ◌+◌, drop, map}
use Rattle.tb_engine_transcripts.specs.Comparing.{same_turns}
use Rattle.tb_engine_transcripts.specs.Contents.{turn_of}
use Rattle.tb_engine_transcripts.proofs.comparing.same_turns.Given as goal

abbrev pub invariant-loop-turn : goal.invariant-loop-turn
invariant-loop-turn l = record {
  same : l.count + same_turns (map turn_of (drop l.turn-index l.one)) (map turn_of l.rest) ≡ same_turns (map turn_of l.one) (map turn_of l.other);
  within : l.count ≤ l.turn-index;
}
