-- What holds at each turn of the loop of `push_pieces` in src/labelled.rt.
use Rattle.std.proofs.Common.{◌≡◌, ◌++◌, drop, map}
use Rattle.tb_engine_listing.specs.Comments.{KeepsHeadings}
use Rattle.tb_engine_listing.specs.Pieces.{plan_of, row_of}
use Rattle.tb_engine_listing.specs.Rows.{pieces_text}
use Rattle.tb_engine_listing.proofs.labelled.push_pieces.Given as goal

abbrev pub invariant-loop-piece : goal.invariant-loop-piece
invariant-loop-piece l = record {
  rows : l.text.items ++ pieces_text (plan_of l.view.program) l.view.marks.now.marks.items (map row_of (drop l.piece-index l.pieces))
      ≡ l.initial.text.items ++ pieces_text (plan_of l.view.program) l.view.marks.now.marks.items (map row_of l.pieces);
  kept : KeepsHeadings l.initial.text.items l.text.items;
}
