-- The goals of `put_taken_back` in src/templates.rt.
use Rattle.tb_compiler_templates.proofs.Appends.{four}
use Rattle.tb_compiler_templates.proofs.templates.put_taken_back.Goals as goal

pub returns : goal.returns
returns c = four _ _ _ _ _ _ _ _ _ c.in_ok-put_by_zero.ensures c.in_ok-put_by_zero-2.ensures c.in_ok-put_return_taken.ensures c.in_ok-put_jump_by.ensures
