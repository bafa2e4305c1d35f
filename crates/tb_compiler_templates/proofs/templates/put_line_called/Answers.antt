-- The goals of `put_line_called` in src/templates.rt.
use Rattle.tb_compiler_templates.proofs.Appends.{four}
use Rattle.tb_compiler_templates.proofs.templates.put_line_called.Goals as goal

pub returns : goal.returns
returns c = four _ _ _ _ _ _ _ _ _ c.in_ok-put_returned_to.ensures c.in_ok-put_jump.ensures c.in_ok-put_here.ensures c.in_ok-put_line_called_by_routine.ensures
