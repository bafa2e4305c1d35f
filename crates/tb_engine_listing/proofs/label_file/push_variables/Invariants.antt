-- What holds at each turn of the loop of `push_variables` in src/label_file.rt.
use Rattle.std.proofs.Common.{◌≡◌, ◌++◌, ◌-◌, map}
use Rattle.std.specs.List.{range_with_len}
use Rattle.tb_engine_listing.specs.Labels.{variable_label, labels_text}
use Rattle.tb_engine_listing.proofs.label_file.push_variables.Given as goal

abbrev pub invariant-variables : goal.invariant-variables
invariant-variables l = l.text.items ++ labels_text (map variable_label (range_with_len l.index (26 - l.index))) ≡ l.initial.text.items ++ labels_text (map variable_label (range_with_len 0 26))
