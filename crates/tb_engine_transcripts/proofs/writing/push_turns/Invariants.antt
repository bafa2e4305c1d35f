-- What holds at each turn of the loop of `push_turns` in src/writing.rt.
use Rattle.std.proofs.Common.{◌≡◌, ◌++◌, map, take}
use Rattle.std.specs.Prelude.{flat_map}
use Rattle.tb_engine_transcripts.specs.Contents.{turn_of}
use Rattle.tb_engine_transcripts.specs.Writing.{ended, turn_lines}
use Rattle.tb_engine_transcripts.proofs.writing.push_turns.Given as goal

abbrev pub invariant-loop-turn : goal.invariant-loop-turn
invariant-loop-turn l = l.text.items ≡ l.initial.text.items ++ flat_map ended (flat_map turn_lines (map turn_of (take l.turn-index l.turns)))
