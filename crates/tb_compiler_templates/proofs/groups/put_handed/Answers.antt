-- The goals of `put_handed` in src/groups.rt.
use Rattle.tb_compiler_templates.proofs.Appends.{four}
use Rattle.tb_compiler_templates.proofs.groups.put_handed.Goals as goal

pub returns : goal.returns
returns c = four _ _ _ _ _ _ _ _ _ c.in_ok-put_brought.ensures c.in_ok-put_brought-2.ensures c.in_ok-put_call.ensures c.in_ok-put_copied.ensures
