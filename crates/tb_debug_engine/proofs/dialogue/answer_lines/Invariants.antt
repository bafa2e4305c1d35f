-- What holds at each turn of the loop of `answer_lines` in src/dialogue.rt.
use Rattle.std.proofs.Common.{◌≡◌, ℕ, List, length}
use Rattle.tb_debug_engine.specs.Dialogue.{HasAnswered}
use Rattle.tb_debug_engine.specs.Streams.{streams_of}
use Rattle.tb_debug_engine.proofs.dialogue.answer_lines.Given as goal

abbrev pub invariant-loop-asked : goal.invariant-loop-asked
invariant-loop-asked g l =
    (lines : List (List ℕ)) × (length lines ≡ l.asked)
    × HasAnswered l.source l.setting l.fn.dialogue lines l.dialogue
    (streams_of g.R.Read.remaining l.fn.streams.commands g.W.Write.contents l.fn.streams.writer) (streams_of g.R.Read.remaining l.streams.commands g.W.Write.contents l.streams.writer)
