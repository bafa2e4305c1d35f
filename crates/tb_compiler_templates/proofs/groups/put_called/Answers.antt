-- The goals of `put_called` in src/groups.rt.
use Rattle.tb_compiler_templates.proofs.Appends.{three}
use Rattle.tb_compiler_templates.proofs.groups.put_called.Goals as goal

pub returns : goal.returns
returns c = three _ _ _ _ _ _ _ c.in_ok-put_searched.ensures c.in_ok-put_return.ensures c.in_ok-put_jump_through.ensures
