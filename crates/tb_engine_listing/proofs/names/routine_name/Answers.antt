-- The goals of `routine_name` in src/names.rt.
use Rattle.std.proofs.Common.{◌≡◌, ◌∙◌, ap, eqb, false, rules, sym}
use Rattle.tb_engine_listing.specs.Labels.{all_routines}
use Rattle.tb_engine_listing.specs.PlaceNames.{routine_at}
use Rattle.tb_engine_listing.proofs.Routines.{routine_more}
use Rattle.tb_engine_listing.proofs.names.routine_name.Goals as goal

pub loop-routine-preserved : goal.loop-routine-preserved
loop-routine-preserved c =
    let off : eqb c.entry.result c.args.at ≡ false = search rules in
    routine_more all_routines c.loop-routine.routine-index _ c.args.at (routine_at all_routines c.args.at) c.loop-routine-test.true
    (ap (λ e. eqb e c.args.at) (sym c.entry.ensures.entry) ∙ off) c.loop-routine.invariant
