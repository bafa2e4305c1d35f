-- What holds at each turn of the loop of `nearest` in src/places.rt.
use Rattle.std.proofs.Common.{◌≡◌, ◌≤◌, IfSome, None, drop, map, option_map}
use Rattle.tb_assembly_labels.specs.Lines.{pair_of}
use Rattle.tb_assembly_labels.specs.Places.{nearest}
use Rattle.tb_assembly_labels.proofs.places.nearest.Given as goal

abbrev pub invariant-loop-label : goal.invariant-loop-label
invariant-loop-label l = record {
  same : nearest l.address (option_map (λ b. pair_of b.now) l.best) (map pair_of (drop l.label-index l.labels)) ≡ nearest l.address None (map pair_of l.labels);
  before : IfSome l.best (λ b. b.now.address ≤ l.address);
}
