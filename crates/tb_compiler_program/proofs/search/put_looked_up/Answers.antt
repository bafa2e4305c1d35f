-- The goals of `put_looked_up` in src/search.rt.
use Rattle.tb_compiler_templates.proofs.Appends.{three}
use Rattle.tb_compiler_program.proofs.search.put_looked_up.Goals as goal

pub returns : goal.returns
returns c = three _ _ _ _ _ _ _ c.in_ok-put_address.ensures c.in_ok-put_constant.ensures c.in_ok-put_jump_to_routine.ensures
