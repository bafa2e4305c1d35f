-- The goals of `lines_are_closed` in src/laws.rt.
use Rattle.tb_compiler_selection.proofs.laws.lines_are_closed.Goals as goal
use Rattle.tb_compiler_selection.proofs.Closed.{all_closed}

pub returns : goal.returns
returns c = all_closed
