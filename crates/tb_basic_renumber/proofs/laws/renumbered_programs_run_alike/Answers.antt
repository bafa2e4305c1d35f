-- The goals of `renumbered_programs_run_alike` in src/laws.rt.
use Rattle.tb_basic_renumber.proofs.Whole.{run_alike}
use Rattle.tb_basic_renumber.proofs.laws.renumbered_programs_run_alike.Goals as goal

pub returns : goal.returns
returns c = run_alike
