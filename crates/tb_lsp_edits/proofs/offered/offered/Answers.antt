-- The goals of `offered` in src/offered.rt.
use Rattle.tb_lsp_edits.proofs.Offers.{at_end, more}
use Rattle.tb_lsp_edits.proofs.offered.offered.Goals as goal

pub loop-candidate-preserved : goal.loop-candidate-preserved
loop-candidate-preserved c = more _ _ _ _ _ _ _ c.loop-candidate-test.true c.in_ok-push_offered.ensures c.loop-candidate.invariant

pub returns : goal.returns
returns c = at_end _ _ _ _ _ c.loop-candidate-test.false c.loop-candidate.invariant
