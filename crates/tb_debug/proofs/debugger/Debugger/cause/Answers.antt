-- The goals of `Debugger::cause` in src/causes.rt.
use Rattle.std.proofs.Common.{◌≡◌, ap, rules, ◌∙◌}
use Rattle.std.specs.Option.{is_some}
use Rattle.tb_debug_inspection.specs.Readings.{values_in}
use Rattle.tb_kernal.specs.Machine.{state_of}
use Rattle.tb_debug.specs.Breakpoints.{breakpoints_of, watches_of}
use Rattle.tb_debug.specs.Debuggees.{line_from}
use Rattle.tb_debug.specs.Runs.{shown}
use Rattle.tb_debug.specs.Stopping.{cause_at}
use Rattle.tb_debug.proofs.Causing.{cause_told}
use Rattle.tb_debug.proofs.debugger.Debugger.cause.Goals as goal

pub returns-clause-stop : goal.returns-clause-stop
returns-clause-stop c =
    let d = c.args.self.now in
    let told : c.cause_by.result ≡ cause_at d.debuggee d.stops (shown d.present) = search rules in
    ap is_some told
    ∙ cause_told (breakpoints_of d.stops) (line_from d.debuggee d.present.machine.regs.pc) (watches_of d.stops) d.present.opened
    (values_in (state_of d.present.machine).mem)
