-- What holds at each turn of the loop of `read_labels` in src/lines.rt.
use Rattle.std.proofs.Common.{◌≡◌, ◌≤◌, ◌+◌, length, map}
use Rattle.tb_basic_text.specs.Lines.{lines_of_file}
use Rattle.tb_assembly_labels.specs.Lines.{labels_from, labels_of, pair_of}
use Rattle.tb_assembly_labels.proofs.lines.read_labels.Given as goal

abbrev pub invariant-loop-line : goal.invariant-loop-line
invariant-loop-line l = record {
  same : labels_from l.number (map pair_of l.labels.items) (lines_of_file l.rest) ≡ labels_of l.text;
  few : l.number + length l.rest ≤ length l.text + 1;
}

abbrev pub decreases-loop-line : goal.decreases-loop-line
decreases-loop-line l = length l.rest
