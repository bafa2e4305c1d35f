-- The goals of `push_piece` in src/labelled.rt.
use Rattle.std.proofs.Common.{◌∷◌, [], refl}
use Rattle.tb_engine_listing.proofs.Commented.{row_keeps}
use Rattle.tb_engine_listing.proofs.labelled.push_piece.Goals as goal

pub returns-clause-kept : goal.returns-clause-kept
returns-clause-kept c = row_keeps c.push_row.result c.args.text.now.items c.push_row.new.text.items (32 ∷ 32 ∷ []) c.deref.result.now refl c.push_row.ensures
