-- The goals of `put_sent` in src/groups.rt.
use Rattle.tb_compiler_templates.proofs.Appends.{two}
use Rattle.tb_compiler_templates.proofs.groups.put_sent.Goals as goal

pub returns : goal.returns
returns c = two _ _ _ _ _ c.in_ok-put_brought.ensures c.in_ok-put_call.ensures
