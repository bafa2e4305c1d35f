-- What holds at each turn of the loop of `push_label_name` in src/labels.rt.
use Rattle.std.proofs.Common.{◌≡◌, ◌++◌, take, map}
use Rattle.tb_assembly_output.specs.Labels.{label_byte}
use Rattle.tb_assembly_output.proofs.labels.push_label_name.Given as goal

abbrev pub invariant-loop-byte : goal.invariant-loop-byte
invariant-loop-byte l = l.text.items ≡ l.initial.text.items ++ map label_byte (take l.byte-index l.name)
