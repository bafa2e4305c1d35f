-- The goal of `remarks_name_nothing` in src/laws.rt.
use Rattle.tb_basic_names.proofs.Unnamed.{unnamed}
use Rattle.tb_basic_names.proofs.laws.remarks_name_nothing.Goals as goal

pub returns : goal.returns
returns c = unnamed
