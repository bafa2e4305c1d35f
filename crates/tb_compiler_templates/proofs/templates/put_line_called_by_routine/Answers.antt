-- The goals of `put_line_called_by_routine` in src/templates.rt.
use Rattle.tb_compiler_templates.proofs.Appends.{three}
use Rattle.tb_compiler_templates.proofs.templates.put_line_called_by_routine.Goals as goal

pub returns : goal.returns
returns c = three _ _ _ _ _ _ _ c.in_ok-put_constant.ensures c.in_ok-put_return.ensures c.in_ok-put_jump.ensures
