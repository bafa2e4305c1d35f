-- What holds at each turn of the loop of `marks_of` in src/marks.rt.
use Rattle.std.proofs.Common.{◌≡◌, drop, map}
use Rattle.tb_engine_listing.specs.Pieces.{row_of}
use Rattle.tb_engine_listing.specs.PlaceNames.{marked_all, marks_of}
use Rattle.tb_engine_listing.proofs.marks.marks_of.Given as goal

abbrev pub invariant-loop-piece : goal.invariant-loop-piece
invariant-loop-piece l = marked_all l.marks.items (map row_of (drop l.piece-index l.pieces)) ≡ marks_of l.length (map row_of l.pieces)
