-- The goals of `put_find` in src/search.rt.
use Rattle.tb_compiler_templates.proofs.Appends.{three}
use Rattle.tb_compiler_program.proofs.search.put_find.Goals as goal

pub returns : goal.returns
returns c = three _ _ _ _ _ _ _ c.in_ok-put_here.ensures c.in_ok-put_comparisons.ensures c.in_ok-put_looked_up.ensures
