-- The goals of `pieces` in src/pieces.rt.
use Rattle.std.proofs.Common.{◌≡◌, ◌<◌, length, map, rules}
use Rattle.tb_engine_listing.specs.Pieces.{plan_of, row_of}
use Rattle.tb_engine_listing.proofs.Sweep.{swept_all, swept_step}
use Rattle.tb_engine_listing.proofs.pieces.pieces.Goals as goal

pub loop-rest-preserved : goal.loop-rest-preserved
loop-rest-preserved c =
    let some : 0 < length c.loop-rest.rest.now = search rules in
    swept_step (plan_of c.args.program.now) c.loop-rest.pieces.items _ c.first_piece-piece.result c.loop-rest.text c.text_here-text.result c.loop-rest.at c.forth-at.result
    c.loop-rest.rest.now c.behind-rest.result.now some c.loop-rest.invariant c.text_here-text.ensures c.first_piece-piece.ensures.row c.first_piece-piece.ensures.some
    (search rules) (search rules) (search rules)

pub returns : goal.returns
returns c =
    let none : length c.loop-rest.rest.now ≡ 0 = search rules in
    swept_all (plan_of c.args.program.now) (map row_of c.loop-rest.pieces.items) c.loop-rest.text c.loop-rest.at c.loop-rest.rest.now c.loop-rest.invariant none
