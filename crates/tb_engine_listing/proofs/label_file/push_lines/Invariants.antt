-- What holds at each turn of the loop of `push_lines` in src/label_file.rt.
use Rattle.std.proofs.Common.{◌≡◌, ◌++◌, drop, map}
use Rattle.tb_compiled.specs.Compiled.{pair_of}
use Rattle.tb_engine_listing.specs.Labels.{line_label, labels_text}
use Rattle.tb_engine_listing.proofs.label_file.push_lines.Given as goal

abbrev pub invariant-loop-start : goal.invariant-loop-start
invariant-loop-start l = l.text.items ++ labels_text (map line_label (map pair_of (drop l.start-index l.starts))) ≡ l.initial.text.items ++ labels_text (map line_label (map pair_of l.starts))
