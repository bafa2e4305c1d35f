-- What becomes less at each call of `are_renamed_letters` in src/comparing.rt.
use Rattle.std.proofs.Common.{length}
use Rattle.tb_lsp_edits.proofs.comparing.+are_renamed_letters.Given as goal

abbrev pub decreases-are_renamed_letters : goal.decreases-are_renamed_letters
decreases-are_renamed_letters l = length l.old.now
