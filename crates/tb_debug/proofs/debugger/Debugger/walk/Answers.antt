-- The goals of `Debugger::walk` in src/respond.rt.
use Rattle.tb_debug.proofs.Leading.{stands_as}
use Rattle.tb_debug.proofs.debugger.Debugger.walk.Goals as goal

pub returns-in_ok-step-in-Step-clause-walks : goal.returns-in_ok-step-in-Step-clause-walks
returns-in_ok-step-in-Step-clause-walks g c =
    let stepped = c.in_ok-step-in-Step.ensures in
    rw c.in-Step.is (tt, stepped.steps, stands_as c.args.self.now.starts c.step.new.self.present c.in_ok-step-in-Step.field-0 stepped.stands, stepped.shown, stepped.stops)
