-- The goals of `typing_keeps_runs` in src/laws.rt.
use Rattle.tb_kernal.proofs.Typing as lemmas
use Rattle.tb_kernal.proofs.laws.typing_keeps_runs.Goals as goal

pub returns : goal.returns
returns c = lemmas.typing_keeps_runs
