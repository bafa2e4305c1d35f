-- What becomes less at each call of `begins` in src/offered.rt.
use Rattle.std.proofs.Common.{length}
use Rattle.tb_lsp_edits.proofs.offered.+begins.Given as goal

abbrev pub decreases-begins : goal.decreases-begins
decreases-begins l = length l.part.now
