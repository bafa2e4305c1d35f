-- The goals of `put_gone_to` in src/groups.rt.
use Rattle.tb_compiler_templates.proofs.Appends.{two}
use Rattle.tb_compiler_templates.proofs.groups.put_gone_to.Goals as goal

pub returns : goal.returns
returns c = two _ _ _ _ _ c.in_ok-put_searched.ensures c.in_ok-put_jump_through.ensures
