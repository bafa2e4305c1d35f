-- The goals of `push_data` in src/label_file.rt.
use Rattle.std.proofs.Common.{[], ◌++◌, map, ap, sym, ◌∙◌}
use Rattle.std.specs.Prelude.{codes}
use Rattle.std.specs.List.{range_with_len}
use Rattle.std.proofs.lemmas.Grind.{flat_map-append}
use Rattle.tb_kernal.specs.Numbers.{CHRIN, CHROUT, GETIN}
use Rattle.tb_compiled_kept.specs.Addresses.{NOTES}
use Rattle.tb_engine_listing.specs.Labels.{variable_label, service_labels, label_text, labels_text}
use Rattle.tb_engine_listing.proofs.Appending.{last, before}
use Rattle.tb_engine_listing.proofs.label_file.push_data.Goals as goal

pub returns : goal.returns
returns c =
    let t0 = c.args.text.now.items in let t1 = c.push_variables.new.text.items in let t2 = c.push_label.new.text.items in
    let t3 = c.push_label-2.new.text.items in let t4 = c.push_label-3.new.text.items in let t5 = c.push_label-4.new.text.items in
    let v = labels_text (map variable_label (range_with_len 0 26)) in
    let n = label_text (codes "notes", NOTES) in let i = label_text (codes "chrin", CHRIN) in let o = label_text (codes "chrout", CHROUT) in let g = label_text (codes "getin", GETIN) in
    before t0 t1 t5 v (n ++ (i ++ (o ++ (g ++ [])))) c.in_ok-push_variables.ensures
    (before t1 t2 t5 n (i ++ (o ++ (g ++ []))) c.in_ok-push_label.ensures
    (before t2 t3 t5 i (o ++ (g ++ [])) c.in_ok-push_label-2.ensures (before t3 t4 t5 o (g ++ []) c.in_ok-push_label-3.ensures (last t4 t5 g c.in_ok-push_label-4.ensures))))
    ∙ ap (λ t. t0 ++ t) (sym (flat_map-append label_text (map variable_label (range_with_len 0 26)) service_labels))
