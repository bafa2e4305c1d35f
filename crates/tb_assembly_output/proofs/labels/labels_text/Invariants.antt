-- What holds at each turn of the loop of `labels_text` in src/labels.rt.
use Rattle.std.proofs.Common.{◌≡◌, take, map}
use Rattle.tb_assembly_meaning.specs.Places.{laid_of}
use Rattle.tb_assembly_output.specs.Labels.{labels_text}
use Rattle.tb_assembly_output.proofs.labels.labels_text.Given as goal

abbrev pub invariant-loop-one : goal.invariant-loop-one
invariant-loop-one l = l.text.items ≡ labels_text (map laid_of (take l.one-index l.laid))
