-- The goals of `put_compared` in src/search.rt.
use Rattle.tb_compiler_templates.proofs.Appends.{three, four}
use Rattle.tb_compiler_program.proofs.search.put_compared.Goals as goal

pub returns : goal.returns
returns c =
    four _ _ _ _ _ _ _ _ _ c.in_ok-put_const.ensures c.in_ok-put_unless_equal.ensures c.in_ok-put_const-2.ensures
    (four _ _ _ _ _ _ _ _ _ c.in_ok-put_unless_equal-2.ensures c.in_ok-put_low_part.ensures c.in_ok-put_at.ensures
    (three _ _ _ _ _ _ _ c.in_ok-put_high_part.ensures c.in_ok-put_at-2.ensures c.in_ok-put_alone.ensures))
