-- The goals of `sending_keeps_runs` in src/laws.rt.
use Rattle.tb_kernal.proofs.Sending as lemmas
use Rattle.tb_kernal.proofs.laws.sending_keeps_runs.Goals as goal

pub returns : goal.returns
returns c = lemmas.sending_keeps_runs
