-- The goals of `Debugger::next` in src/debugger.rt.
use Rattle.std.proofs.Common.{subst}
use Rattle.tb_debug.specs.Begins.{StandsBy}
use Rattle.tb_debug.proofs.Leading.{stands_as}
use Rattle.tb_debug.proofs.debugger.Debugger.next.Goals as goal

pub returns-clause-stands : goal.returns-clause-stands
returns-clause-stands g c =
    let now = c.loop-done.self in
    subst (λ marks. StandsBy marks c.standing.result now.present) c.loop-done.invariant.run.1
    (stands_as now.starts now.present c.standing.result c.standing.ensures)
