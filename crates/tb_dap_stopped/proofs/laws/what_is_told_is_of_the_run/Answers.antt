-- The goal of `what_is_told_is_of_the_run` in src/laws.rt.
use Rattle.tb_dap_stopped.proofs.Told as told
use Rattle.tb_dap_stopped.proofs.laws.what_is_told_is_of_the_run.Goals as goal

pub returns : goal.returns
returns c = told.what_is_told_is_of_the_run
