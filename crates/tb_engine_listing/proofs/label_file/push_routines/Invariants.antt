-- What holds at each turn of the loop of `push_routines` in src/label_file.rt.
use Rattle.std.proofs.Common.{◌≡◌, ◌++◌, drop, map}
use Rattle.tb_engine_listing.specs.Labels.{routine_label, all_routines, labels_text}
use Rattle.tb_engine_listing.proofs.label_file.push_routines.Given as goal

abbrev pub invariant-loop-routine : goal.invariant-loop-routine
invariant-loop-routine l = l.text.items ++ labels_text (map routine_label (drop l.routine-index all_routines)) ≡ l.initial.text.items ++ labels_text (map routine_label all_routines)
