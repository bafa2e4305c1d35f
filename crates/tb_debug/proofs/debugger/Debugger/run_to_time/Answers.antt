-- The goals of `Debugger::run_to_time` in src/debugger.rt.
use Rattle.std.proofs.Common.{◌∙◌, subst, sym}
use Rattle.tb_debug.specs.Begins.{StandsBy}
use Rattle.tb_debug.specs.Runs.{is_marked}
use Rattle.tb_debug.proofs.Leading.{no_line, no_time, time_more}
use Rattle.tb_debug.proofs.Stopping.{last_is, limited_on, then_keeps}
use Rattle.tb_debug.proofs.debugger.Debugger.run_to_time.Goals as goal

pub returns-in_default : goal.returns-in_default
returns-in_default g c =
    let d = c.args.self.now in
    let e = c.loop-done.self in
    let f = c.next_line.new.self in
    let reached = c.in_ok-reached.reached in
    let known = c.loop-done.invariant in
    let next = c.in_ok-reached.ensures in
    let off = sym c.is_at.ensures ∙ c.if-is_at.false in
    record {
      run = then_keeps d e f known.run next.run;
      time = no_time c.args.time d.starts reached e.present f.present c.in_default.not-Line next.advances;
      few = λ before.
          time_more c.args.time e.present.begun f.present.begun (is_marked e.starts e.present.machine.regs.pc) off (known.before before) next.begun;
      begins = λ start on. no_line d.starts start reached d.present f.present c.in_default.not-Line;
      stands = subst (λ marks. StandsBy marks reached f.present) known.run.1 next.stands;
      limited = limited_on c.args.limit c.saturating_add-last.result c.left.result reached d.present e.present f.present next.limited c.left.ensures known.few
          (last_is d.present.events c.args.limit _ c.saturating_add-last.ensures);
      shown = next.shown ∙ known.shown;
      stops = next.stops ∙ known.stops;
    }
