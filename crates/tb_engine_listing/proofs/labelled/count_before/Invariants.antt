-- What holds at each turn of the loop of `count_before` in src/labelled.rt.
use Rattle.std.proofs.Common.{◌≡◌, ◌≤◌, ◌+◌, drop, map}
use Rattle.tb_engine_listing.specs.Pieces.{row_of}
use Rattle.tb_engine_listing.specs.Rows.{count_before}
use Rattle.tb_engine_listing.proofs.labelled.count_before.Given as goal

abbrev pub invariant-loop-piece : goal.invariant-loop-piece
invariant-loop-piece l = record {
  counted : l.count + count_before l.at (map row_of (drop l.piece-index l.pieces)) ≡ count_before l.at (map row_of l.pieces);
  within : l.count ≤ l.piece-index;
}
