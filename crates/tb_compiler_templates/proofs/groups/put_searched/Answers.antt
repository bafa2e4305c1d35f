-- The goals of `put_searched` in src/groups.rt.
use Rattle.tb_compiler_templates.proofs.Appends.{three}
use Rattle.tb_compiler_templates.proofs.groups.put_searched.Goals as goal

pub returns : goal.returns
returns c = three _ _ _ _ _ _ _ c.in_ok-put_constant.ensures c.in_ok-put_brought.ensures c.in_ok-put_find.ensures
