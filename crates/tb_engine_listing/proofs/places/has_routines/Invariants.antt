-- What holds at each turn of the loop of `has_routines` in src/places.rt.
use Rattle.std.proofs.Common.{drop, map}
use Rattle.tb_engine_listing.specs.Labels.{routine_label, all_routines}
use Rattle.tb_engine_listing.specs.Places.{AreNamed}
use Rattle.tb_engine_listing.proofs.places.has_routines.Given as goal

abbrev pub invariant-loop-routine : goal.invariant-loop-routine
invariant-loop-routine l = record {
  all : AreNamed l.image.labels.entries (map routine_label (drop l.routine-index all_routines)) → AreNamed l.image.labels.entries (map routine_label all_routines);
  left : AreNamed l.image.labels.entries (map routine_label all_routines) → AreNamed l.image.labels.entries (map routine_label (drop l.routine-index all_routines));
}
