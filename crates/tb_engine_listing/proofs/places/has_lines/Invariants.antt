-- What holds at each turn of the loop of `has_lines` in src/places.rt.
use Rattle.std.proofs.Common.{drop, map}
use Rattle.tb_compiled.specs.Compiled.{pair_of}
use Rattle.tb_engine_listing.specs.Labels.{line_label}
use Rattle.tb_engine_listing.specs.Places.{AreNamed}
use Rattle.tb_engine_listing.proofs.places.has_lines.Given as goal

abbrev pub invariant-loop-start : goal.invariant-loop-start
invariant-loop-start l = record {
  all : AreNamed l.image.labels.entries (map line_label (map pair_of (drop l.start-index l.starts)))
      → AreNamed l.image.labels.entries (map line_label (map pair_of l.starts));
  left : AreNamed l.image.labels.entries (map line_label (map pair_of l.starts))
      → AreNamed l.image.labels.entries (map line_label (map pair_of (drop l.start-index l.starts)));
}
