-- The goals of `push_pieces` in src/labelled.rt.
use Rattle.tb_engine_listing.specs.Pieces.{plan_of}
use Rattle.tb_engine_listing.proofs.Rowed.{piece_more, pieces_all}
use Rattle.tb_engine_listing.proofs.labelled.push_pieces.Goals as goal

pub loop-piece-preserved : goal.loop-piece-preserved
loop-piece-preserved c =
    let view = c.args.view.now in
    record {
      rows = piece_more (plan_of view.program) view.marks.now.marks.items c.args.pieces.now c.loop-piece.piece-index _ c.loop-piece.text.items
          c.push_label.new.text.items c.push_piece.new.text.items _ c.loop-piece-test.true c.in_ok-push_label.ensures.label
          c.in_ok-push_piece.ensures.row c.loop-piece.invariant.rows;
      kept = λ hs h. c.in_ok-push_piece.ensures.kept hs (c.in_ok-push_label.ensures.kept hs (c.loop-piece.invariant.kept hs h));
    }

pub returns-clause-rows : goal.returns-clause-rows
returns-clause-rows c =
    let view = c.args.view.now in
    pieces_all (plan_of view.program) view.marks.now.marks.items c.args.pieces.now c.loop-piece.piece-index c.loop-piece.text.items _ c.loop-piece-test.false
    c.loop-piece.invariant.rows
