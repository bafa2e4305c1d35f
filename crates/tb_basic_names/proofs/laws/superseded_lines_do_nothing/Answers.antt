-- The goal of `superseded_lines_do_nothing` in src/laws.rt.
use Rattle.tb_basic_names.proofs.Superseded.{superseded}
use Rattle.tb_basic_names.proofs.laws.superseded_lines_do_nothing.Goals as goal

pub returns : goal.returns
returns c = superseded
