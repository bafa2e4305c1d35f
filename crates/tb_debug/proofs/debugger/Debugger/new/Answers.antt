-- The goals of `Debugger::new` in src/debugger.rt.
use Rattle.std.proofs.Common.{ap, ◌∙◌}
use Rattle.tb_kernal.specs.Machine.{state_of}
use Rattle.tb_debug.specs.Debuggees.{program_of}
use Rattle.tb_debug.specs.Runs.{first_point}
use Rattle.tb_debug.proofs.debugger.Debugger.new.Goals as goal

pub returns-clause-run : goal.returns-clause-run
returns-clause-run c =
    let begun = c.in_ok-debugger.ensures.run in
    let went = c.in_ok-next_line.ensures.run in
    (ap program_of (went.0 ∙ begun.0), went.2 (first_point (state_of c.args.machine) c.args.rom) begun.1)
