-- The goals of `put_divided_lost` in src/divisions.rt.
use Rattle.tb_compiler_templates.proofs.Appends.{two}
use Rattle.tb_compiler_templates.proofs.divisions.put_divided_lost.Goals as goal

pub returns : goal.returns
returns c = two _ _ _ _ _ c.in_ok-put_divided_by.ensures c.in_ok-put_faulted.ensures
