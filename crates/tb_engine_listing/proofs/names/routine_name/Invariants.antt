-- What holds at each turn of the loop of `routine_name` in src/names.rt.
use Rattle.std.proofs.Common.{◌≡◌, drop}
use Rattle.tb_engine_listing.specs.Labels.{all_routines}
use Rattle.tb_engine_listing.specs.PlaceNames.{routine_at}
use Rattle.tb_engine_listing.proofs.names.routine_name.Given as goal

abbrev pub invariant-loop-routine : goal.invariant-loop-routine
invariant-loop-routine l = routine_at (drop l.routine-index all_routines) l.at ≡ routine_at all_routines l.at
