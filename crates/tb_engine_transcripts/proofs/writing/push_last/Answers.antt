-- The goal of `push_last` in src/writing.rt.
use Rattle.tb_engine_transcripts.proofs.Pieces.{one_more}
use Rattle.tb_engine_transcripts.proofs.writing.push_last.Goals as goal

pub loop-piece-preserved : goal.loop-piece-preserved
loop-piece-preserved c =
    one_more c.loop-piece.text.items c.push_line.new.text.items _ c.in-Some.piece.now c.in-Some.below.now c.loop-piece.rest.now c.in-Some.ensures.0
    c.in_ok-push_line.ensures c.loop-piece.invariant
