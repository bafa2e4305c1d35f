-- The goals of `push_label` in src/labelled.rt.
use Rattle.std.proofs.Common.{◌≡◌, ◌∷◌, [], false, ap, ◌∙◌}
use Rattle.tb_engine_listing.specs.Comments.{is_comment}
use Rattle.tb_engine_listing.proofs.Commented.{label_plain, row_keeps}
use Rattle.tb_engine_listing.proofs.labelled.push_label.Goals as goal

pub returns-clause-kept : goal.returns-clause-kept
returns-clause-kept c =
    let name = c.deref.result.now in
    let plain : is_comment name ≡ false = ap is_comment c.deref.ensures.value ∙ c.in_ok-name_of.ensures.plain in
    row_keeps c.push_row.result c.args.text.now.items c.push_row.new.text.items name (58 ∷ []) (label_plain name plain) c.push_row.ensures
