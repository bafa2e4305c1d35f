-- The goals of `take_quietly` in src/run.rt.
use Rattle.std.proofs.Common.{rules, ◌<◌, ap, sym, subst, ◌∙◌}
use Rattle.tb_cpu.specs.declared.registers.Regs.{Regs}
use Rattle.tb_kernal.specs.declared.events.Event.TheVariants.{Go}
use Rattle.tb_kernal.specs.Machine.{State}
use Rattle.tb_kernal.specs.Runs.{quiet}
use Rattle.tb_machine_profile.specs.Tallies.{CountsEvent, after_step}
use Rattle.tb_machine_profile.proofs.run.take_quietly.Goals as goal

pub returns : goal.returns
returns g c =
    let (ready, same, happened) = c.in_ok-go_once.ensures in
    let address : c.args.machine.now.regs.pc < 65536 = search rules in
    let counted = c.count.ensures ∙ ap (λ (r : Regs). after_step c.args.tally.now r.pc c.cycles_of_go-cycles.result) c.regs-pc.ensures
    ∙ ap (after_step c.args.tally.now c.args.machine.now.regs.pc) c.cycles_of_go-cycles.ensures.value in
    let P : State → Type 0 = λ s. CountsEvent (Go (quiet ready)) s c.args.tally.now c.count.new.self in
    record {
      event = Go (quiet ready);
      ready = ready;
      same = same;
      given = c.requires.quiet ready;
      happened = happened;
      counted = subst P (sym same) (address, counted);
    }
