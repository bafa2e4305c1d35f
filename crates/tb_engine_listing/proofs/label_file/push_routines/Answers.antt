-- The goals of `push_routines` in src/label_file.rt.
use Rattle.std.proofs.Common.{◌∙◌, ◌++◌, map, refl}
use Rattle.tb_engine_listing.specs.Labels.{label_text, labels_text, routine_label, all_routines}
use Rattle.tb_engine_listing.proofs.Appending.{more}
use Rattle.tb_engine_listing.proofs.label_file.push_routines.Goals as goal

pub loop-routine-preserved : goal.loop-routine-preserved
loop-routine-preserved c =
    more (λ rs. labels_text (map routine_label rs)) (λ r. label_text (routine_label r)) (λ r rs. refl) all_routines c.loop-routine.routine-index _
    c.loop-routine.text.items c.push_label.new.text.items _
    c.loop-routine-test.true c.loop-routine.invariant
    (c.in_ok-push_label.ensures ∙ (λ i. c.loop-routine.text.items ++ label_text (c.name.ensures i, c.entry.ensures.entry i)))
