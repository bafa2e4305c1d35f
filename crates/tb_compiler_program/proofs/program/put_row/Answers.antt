-- The goals of `put_row` in src/program.rt.
use Rattle.tb_compiler_templates.proofs.Appends.{two}
use Rattle.tb_compiler_program.proofs.program.put_row.Goals as goal

pub returns : goal.returns
returns c = two _ _ _ _ _ c.in_ok-put.ensures c.in_ok-put_address_word.ensures
