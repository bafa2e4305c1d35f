-- The goals of `put_noted` in src/templates.rt.
use Rattle.tb_compiler_templates.proofs.Appends.{three}
use Rattle.tb_compiler_templates.proofs.templates.put_returned_to.Goals as goal

pub returns : goal.returns
returns c = three _ _ _ _ _ _ _ c.in_ok-put_by_zero.ensures c.in_ok-put_return_stored.ensures c.in_ok-put_carried.ensures
