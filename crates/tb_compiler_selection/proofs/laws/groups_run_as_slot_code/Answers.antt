-- The goals of `groups_run_as_slot_code` in src/laws.rt.
use Rattle.tb_compiler_selection.proofs.laws.groups_run_as_slot_code.Goals as goal
use Rattle.tb_compiler_selection.proofs.GroupRuns.{reached, found}

pub returns : goal.returns
returns c code r = (λ j. reached code j r, λ k out. found code k r out)
