-- The goals of `Debugger::at_start` in src/debugger.rt.
use Rattle.std.proofs.Common.{◌∷◌, ◌≤◌, ap, length, refl, sym, subst, arith, ◌∙◌}
use Rattle.std.proofs.lemmas.List.Elements.{All-nil}
use Rattle.tb_kernal.specs.Machine.{state_of}
use Rattle.tb_debug.specs.Runs.{AreCheckpoints, AreSpaced, IsFirst, IsCheckpoint, first_point}
use Rattle.tb_debug.proofs.Spacing.{spaced_first}
use Rattle.tb_debug.proofs.debugger.Debugger.at_start.Goals as goal

pub returns-clause-run : goal.returns-clause-run
returns-clause-run c =
    let marks = c.in_ok-starts.starts in
    let start = first_point (state_of c.args.machine) c.args.rom in
    let first = c.first-present.ensures.run marks in
    let now = c.first-present.result in
    let none = c.new-2.ensures.later in (
      refl,
      record {
        marked = c.in_ok-starts.ensures;
        of_run = first;
        of_first = subst (IsFirst marks start) (sym c.new-2.ensures.first) (
          c.in_ok-first.ensures.of_run marks start first,
          omega (arith, c.in_ok-first.ensures.events, c.first-present.ensures.events),
        );
        of_past = subst (AreCheckpoints marks start now.events) (sym none)
            (All-nil (λ k. IsCheckpoint marks start k × (k.moment.events ≤ now.events)));
        few = omega (arith, ap length none);
        spaced = subst (λ ks. AreSpaced (c.new-2.result.first ∷ ks)) (sym none) (spaced_first c.new-2.result.first);
        near = λ k inside comes. omega (arith, inside, c.first-present.ensures.events);
      },
    )
