-- The goals of `Debugger::rewind_to_checkpoint` in src/debugger.rt.
use Rattle.std.proofs.Common.{◌≡◌, ◌∷◌, ◌+◌, ◌-◌, ap, arith, inl, inr, length, refl, sym, subst, take, ◌∙◌}
use Rattle.std.proofs.lemmas.Bool.{cases_lt}
use Rattle.std.proofs.lemmas.List.{length-take, take_all}
use Rattle.tb_debug.proofs.Counting.{begun_few}
use Rattle.tb_debug.proofs.Spacing.{kept_taken, newest_taken, spaced_taken}
use Rattle.tb_debug.specs.Runs.{AreCheckpoints, AreSpaced, IsFirst, newest_events}
use Rattle.tb_debug.proofs.debugger.Debugger.rewind_to_checkpoint.Goals as goal

pub returns-clause-run : goal.returns-clause-run
returns-clause-run c = (
  refl,
  refl,
  λ start h.
      let marks = c.args.self.now.starts in
      let present = c.args.self.now.present in
      let first = c.args.self.now.history.first in
      let later = c.args.self.now.history.later.items in
      let kept = c.in-Some.ensures.of_run marks start present.events h.of_first h.of_past in
      let same = c.forget_after.ensures.first in
      let taken = c.forget_after.ensures.later in
      let newest : newest_events first (take c.args.index later) ≡ c.in_ok-moment.moment.events =
      newest_taken first later c.args.index c.in-Some.checkpoint.now (omega (arith, c.args.self.now.history.later.ok.0, c.in-Some.ensures.inside)) c.in-Some.ensures.first c.in-Some.ensures.later
      ∙ sym c.in_ok-moment.ensures.events in
      record {
        marked = h.marked;
        of_run = c.in_ok-moment.ensures.again marks start present h.of_run c.sent.ensures kept.0 kept.1;
        of_first = subst (IsFirst marks start) (sym same) h.of_first;
        of_past = subst (AreCheckpoints marks start c.in_ok-moment.moment.events) (sym taken)
            (kept_taken marks start first later c.args.index present.events _ h.spaced newest h.of_past);
        few = omega (arith, ap length taken, length-take c.args.index later, h.few);
        spaced = subst (λ ks. AreSpaced (c.forget_after.new.self.first ∷ ks)) (sym taken)
            (subst (λ k. AreSpaced (k ∷ take c.args.index later)) (sym same) (spaced_taken first later c.args.index h.spaced));
        near = λ k inside comes. omega (arith, inside, (λ i. newest_events (same i) (taken i)) ∙ newest);
      },
)

pub returns-clause-before : goal.returns-clause-before
returns-clause-before c = λ time start until none on.
    let d = c.args.self.now in
    let k = c.in-Some.checkpoint.now in
    let same = c.in_ok-moment.ensures.begun in
    elim (cases_lt 0 c.args.index) [
      | inl some ↦
          let e : c.args.index ≡ c.args.index - 1 + 1 = omega (arith, some) in
          let at = ap (λ x. x.moment.begun) (c.in-Some.ensures.later (c.args.index - 1) k e) in
          let few = until.before (c.args.index - 1) k e in
          omega (arith, same, at, few)
      | inr first ↦
          let e : c.args.index ≡ 0 = omega (arith, first) in
          let at = ap (λ x. x.moment.begun) (c.in-Some.ensures.first e) in
          let count = ap (λ x. x.begun) on.of_first.0.stands in
          let few = begun_few d.starts start d.history.first.moment.events in
          omega (arith, same, at, count, few, none, on.of_first.1)
    ]

pub returns-clause-newest : goal.returns-clause-newest
returns-clause-newest c = λ last.
    let first = c.args.self.now.history.first in
    let later = c.args.self.now.history.later.items in
    let whole : take c.args.index later ≡ later = take_all c.args.index later (omega (arith, c.args.self.now.history.later.ok.0, last)) in
    c.in_ok-moment.ensures.events
    ∙ sym (newest_taken first later c.args.index c.in-Some.checkpoint.now (omega (arith, c.args.self.now.history.later.ok.0, c.in-Some.ensures.inside)) c.in-Some.ensures.first c.in-Some.ensures.later)
    ∙ ap (newest_events first) whole
