-- The goals of `Debugger::run_until` in src/searching.rt.
use Rattle.std.proofs.Common.{arith, refl, subst, ◌∙◌}
use Rattle.tb_debug.specs.Begins.{StandsBy}
use Rattle.tb_debug.proofs.Leading.{not_there}
use Rattle.tb_debug.proofs.Stopping.{last_is, limited_on, off, passed_here, then_keeps}
use Rattle.tb_debug.proofs.debugger.Debugger.run_until.Goals as goal

pub loop-done-init : goal.loop-done-init
loop-done-init g c =
    record {
      run = (refl, refl, λ start h. h);
      shown = refl;
      stops = refl;
      few = omega (arith, c.saturating_add-last.ensures);
      many = omega arith;
      passed = λ start h. passed_here c.args.to start c.args.self.now;
    }

pub returns-in_default : goal.returns-in_default
returns-in_default g c =
    let d = c.args.self.now in
    let e = c.loop-done.self in
    let f = c.next_line.new.self in
    let reached = c.in_ok-reached.reached in
    let known = c.loop-done.invariant in
    let next = c.in_ok-reached.ensures in
    let used = limited_on c.args.limit c.saturating_add-last.result c.left.result reached d.present e.present f.present next.limited c.left.ensures known.few
    (last_is d.present.events c.args.limit _ c.saturating_add-last.ensures) in
    record {
      run = then_keeps d e f known.run next.run;
      there = not_there c.args.to reached f c.in_default.not-Line;
      leads = λ start on.
          off c.args.to start d e f c.left.result known.run (known.passed start on) c.args.limit reached
          c.in_default.not-Line (next.ends start (known.run.2 start on).of_run) used;
      stands = subst (λ marks. StandsBy marks reached f.present) known.run.1 next.stands;
      shown = next.shown ∙ known.shown;
      stops = next.stops ∙ known.stops;
    }
