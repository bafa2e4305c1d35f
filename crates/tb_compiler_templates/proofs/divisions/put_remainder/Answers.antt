-- The goals of `put_remainder` in src/divisions.rt.
use Rattle.tb_compiler_templates.proofs.Appends.{three}
use Rattle.tb_compiler_templates.proofs.divisions.put_remainder.Goals as goal

pub returns : goal.returns
returns c = three _ _ _ _ _ _ _ c.in_ok-put_brought.ensures c.in_ok-put_brought-2.ensures c.in_ok-put_told.ensures
