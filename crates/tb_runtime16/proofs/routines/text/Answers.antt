-- The goals of `text` in src/routines.rt.
use Rattle.tb_runtime16.proofs.routines.text.Goals as goal
use Rattle.tb_runtime16.proofs.TextRuns.{text_law}

pub returns : goal.returns
returns c = text_law
