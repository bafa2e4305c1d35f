-- The goals of `put_remainder_in` in src/divisions.rt.
use Rattle.tb_compiler_templates.proofs.Appends.{after_line}
use Rattle.tb_compiler_templates.proofs.divisions.put_remainder_in.Goals as goal

pub returns : goal.returns
returns c = after_line _ _ _ _ _ _ _ c.may_be_zero.ensures c.in_ok-put_lined.ensures c.in_ok-put_remainder.ensures
