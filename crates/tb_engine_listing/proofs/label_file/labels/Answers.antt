-- The goals of `labels` in src/label_file.rt.
use Rattle.std.proofs.Common.{[], ◌++◌, ◌∷◌, map, ap, sym, ◌∙◌}
use Rattle.std.specs.Prelude.{codes}
use Rattle.std.proofs.lemmas.Grind.{flat_map-append}
use Rattle.tb_compiled.specs.Compiled.{pair_of}
use Rattle.tb_engine_listing.specs.Labels.{line_label, block_labels, data_labels, label_text, labels_text}
use Rattle.tb_engine_listing.proofs.Appending.{before}
use Rattle.tb_engine_listing.proofs.label_file.labels.Goals as goal

pub returns : goal.returns
returns c =
    let lines = map line_label (map pair_of c.args.starts.now) in
    let behind = (codes "line_table", c.args.table) ∷ data_labels in
    let t1 = c.push_block.new.text.items in let t2 = c.push_lines.new.text.items in let t3 = c.push_label.new.text.items in let t4 = c.push_data.new.text.items in
    let b = labels_text block_labels in let l = labels_text lines in let t = label_text (codes "line_table", c.args.table) in let d = labels_text data_labels in
    before [] t1 t4 b (l ++ (t ++ d)) (c.in_ok-push_block.ensures ∙ ap (λ x. x ++ b) c.new-text.ensures.items)
    (before t1 t2 t4 l (t ++ d) c.in_ok-push_lines.ensures (before t2 t3 t4 t d c.in_ok-push_label.ensures c.in_ok-push_data.ensures))
    ∙ sym (flat_map-append label_text block_labels (lines ++ behind) ∙ ap (λ t. b ++ t) (flat_map-append label_text lines behind))
