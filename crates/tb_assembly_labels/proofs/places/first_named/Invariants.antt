-- What holds at each turn of the loop of `first_named` in src/places.rt.
use Rattle.std.proofs.Common.{◌≡◌, drop, map}
use Rattle.tb_assembly_labels.specs.Lines.{pair_of}
use Rattle.tb_assembly_labels.specs.Places.{first_named}
use Rattle.tb_assembly_labels.proofs.places.first_named.Given as goal

abbrev pub invariant-loop-label : goal.invariant-loop-label
invariant-loop-label l = first_named l.wanted (map pair_of (drop l.label-index l.labels)) ≡ first_named l.wanted (map pair_of l.labels)
