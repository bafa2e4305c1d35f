-- The goals of `History::keep` in src/history.rt.
use Rattle.std.proofs.Common.{arith, [], ◌∷◌, ◌++◌, ◌+◌, ◌≤◌, subst, sym, ◌∙◌}
use Rattle.std.proofs.lemmas.List.Elements.{All-push}
use Rattle.tb_debug.specs.Runs.{AreCheckpoints, AreSpaced, IsCheckpoint, newest_events, spacing}
use Rattle.tb_debug.proofs.Spacing.{spaced_kept}
use Rattle.tb_debug.proofs.history.History.keep.Goals as goal

pub returns-clause-later : goal.returns-clause-later
returns-clause-later c = λ marks start h all.
    let events = c.args.moment.now.events in
    let few : c.in_ok-checkpoint.checkpoint.moment.events ≤ events = omega (arith, c.in_ok-checkpoint.ensures.events) in
    subst (AreCheckpoints marks start events) (sym c.in_ok-push.ensures.later)
    (All-push (λ k. IsCheckpoint marks start k × (k.moment.events ≤ events)) c.make_room.new.self.later.items c.in_ok-checkpoint.checkpoint (c.make_room.ensures.later marks start events all)
    (c.in_ok-checkpoint.ensures.of_run marks start h, few))

pub returns-clause-spaced : goal.returns-clause-spaced
returns-clause-spaced c = λ spaced.
    let first = c.args.self.now.first in
    let old = c.args.self.now.later.items in
    let k = c.in_ok-checkpoint.checkpoint in
    let left = c.make_room.new.self.later.items in
    let due : newest_events first old + spacing ≤ k.moment.events =
    omega (arith, c.is_due.ensures.0 c.if-not-is_due.false, c.in_ok-checkpoint.ensures.events) in
    subst (λ ks. AreSpaced (c.push.new.self.first ∷ ks)) (sym c.in_ok-push.ensures.later)
    (subst (λ f. AreSpaced (f ∷ (left ++ k ∷ []))) (sym (c.in_ok-push.ensures.first ∙ c.make_room.ensures.first))
    (spaced_kept first old left k c.make_room.ensures.all c.make_room.ensures.one due spaced))
