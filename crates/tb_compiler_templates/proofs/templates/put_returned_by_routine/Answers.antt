-- The goals of `put_returned_by_routine` in src/templates.rt.
use Rattle.tb_compiler_templates.proofs.Appends.{three}
use Rattle.tb_compiler_templates.proofs.templates.put_returned_by_routine.Goals as goal

pub returns : goal.returns
returns c = three _ _ _ _ _ _ _ c.in_ok-put_constant.ensures c.in_ok-put_call.ensures c.in_ok-put_jump_through.ensures
