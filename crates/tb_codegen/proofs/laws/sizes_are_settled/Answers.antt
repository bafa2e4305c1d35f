-- The goals of `sizes_are_settled` in src/laws.rt.
use Rattle.tb_codegen.proofs.Promised.{fits_settled, is_settled, settled_fits, settled_is}
use Rattle.tb_codegen.proofs.laws.sizes_are_settled.Goals as goal

pub returns-clause-fits : goal.returns-clause-fits
returns-clause-fits c seed program = (settled_fits seed program, fits_settled seed program)

pub returns-clause-too_long : goal.returns-clause-too_long
returns-clause-too_long c seed n program = (settled_is seed n program, is_settled seed n program)
