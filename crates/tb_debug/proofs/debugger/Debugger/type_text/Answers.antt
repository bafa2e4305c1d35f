-- The goals of `Debugger::type_text` in src/debugger.rt.
use Rattle.std.proofs.Common.{refl, sym, subst, ◌∙◌, arith}
use Rattle.tb_debug.specs.Runs.{AreCheckpoints, typed}
use Rattle.tb_debug.proofs.Spacing.{newest_typed, spaced_typed}
use Rattle.tb_debug.proofs.Typing.{near_typed, typed_all, typed_checkpoint, typed_moment}
use Rattle.tb_debug.proofs.debugger.Debugger.type_text.Goals as goal

pub returns-clause-run : goal.returns-clause-run
returns-clause-run c = (
  refl,
  refl,
  λ start h.
      let marks = c.args.self.now.starts in
      let more = c.args.bytes.now in
      let now = c.in_ok-type_text.ensures in
      record {
        marked = h.marked;
        of_run = typed_moment marks start more _ _ now h.of_run;
        of_first =
            let first = typed_checkpoint marks start more c.args.self.now.present.events c.args.self.now.history.first c.type_text-2.new.self.first
            h.of_run.ran c.in_ok-type_text-2.ensures.first c.in_ok-type_text-2.ensures.sent (h.of_first.0, omega (arith, h.of_first.1)) in
            (first.0, c.in_ok-type_text-2.ensures.first.events ∙ h.of_first.1);
        of_past = subst (λ n. AreCheckpoints marks (typed more start) n c.type_text-2.new.self.later.items) (sym now.events)
            (typed_all marks start more c.args.self.now.present.events c.args.self.now.history.later.items c.type_text-2.new.self.later.items h.of_run.ran c.in_ok-type_text-2.ensures.later h.of_past);
        few = omega (arith, c.in_ok-type_text-2.ensures.later.many, h.few);
        spaced = spaced_typed more _ _ _ _ c.in_ok-type_text-2.ensures.first c.in_ok-type_text-2.ensures.later h.spaced;
        near = near_typed marks start more _ _ _ _ h.of_run.ran
            (newest_typed more _ _ _ _ c.in_ok-type_text-2.ensures.first c.in_ok-type_text-2.ensures.later) now.events h.near;
      },
)
