-- The goals of `has_routines` in src/places.rt.
use Rattle.std.proofs.Common.{◌≡◌, false, map, rules, subst, true}
use Rattle.tb_runtime16.specs.declared.addresses.Routine.TheVariants.{Multiply}
use Rattle.tb_engine_listing.specs.Labels.{all_routines, routine_label}
use Rattle.tb_engine_listing.specs.Places.{IsNamed}
use Rattle.tb_engine_listing.proofs.Named.{named_first, named_more, not_named, on_false, on_true}
use Rattle.tb_engine_listing.proofs.places.has_routines.Goals as goal

pub loop-routine-preserved : goal.loop-routine-preserved
loop-routine-preserved c =
    let labels = c.args.image.now.labels.entries in
    let is : c.has_label.result ≡ true = search rules in
    record {
      all = named_more labels routine_label all_routines c.loop-routine.routine-index _ (map routine_label all_routines) c.loop-routine-test.true c.loop-routine.invariant.all
          (subst (IsNamed labels) (λ i. (c.name.ensures i, c.entry.ensures.entry i)) (on_true c.has_label.result _ _ c.has_label.ensures is));
      left = λ h. (named_first labels routine_label all_routines c.loop-routine.routine-index Multiply c.loop-routine-test.true (c.loop-routine.invariant.left h)).1;
    }

pub returns-then-not-has_label : goal.returns-then-not-has_label
returns-then-not-has_label c =
    let labels = c.args.image.now.labels.entries in
    let off : c.has_label.result ≡ false = search rules in
    not_named labels routine_label all_routines c.loop-routine.routine-index _ c.name.result.now c.entry.result (map routine_label all_routines)
    c.loop-routine-test.true c.loop-routine.invariant.left c.name.ensures c.entry.ensures.entry (on_false c.has_label.result _ _ c.has_label.ensures off)
