-- The goals of `put_returned` in src/templates.rt.
use Rattle.tb_compiler_templates.proofs.Appends.{three}
use Rattle.tb_compiler_templates.proofs.templates.put_returned.Goals as goal

pub returns : goal.returns
returns c = three _ _ _ _ _ _ _ c.in_ok-put_taken_back.ensures c.in_ok-put_here.ensures c.in_ok-put_returned_by_routine.ensures
