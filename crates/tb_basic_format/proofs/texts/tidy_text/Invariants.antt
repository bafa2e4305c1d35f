-- What holds at each turn of the loop of `tidy_text` in src/texts.rt.
use Rattle.std.proofs.Common.{length}
use Rattle.tb_basic_format.proofs.TextSteps.{LeadsOn}
use Rattle.tb_basic_format.proofs.texts.tidy_text.Given as goal

abbrev pub invariant-loop-line : goal.invariant-loop-line
invariant-loop-line l = LeadsOn l.notation l.behind_return l.source l.rest l.text.items

abbrev pub decreases-loop-line : goal.decreases-loop-line
decreases-loop-line l = length l.rest
