-- The goals of `Debugger::line_here` in src/debugger.rt.
use Rattle.std.proofs.Common.{ap, ◌∙◌}
use Rattle.tb_debug.specs.Debuggees.{line_from}
use Rattle.tb_debug.proofs.Sources.{shows_some}
use Rattle.tb_debug.proofs.debugger.Debugger.line_here.Goals as goal

pub returns-clause-source : goal.returns-clause-source
returns-clause-source c = λ source seed start rom compiled h.
    shows_some source seed start rom compiled c.args.self.now c.line_from.result h
    (c.line_from.ensures ∙ ap (λ r. line_from c.args.self.now.debuggee r.pc) c.regs.ensures)
