-- What becomes less at each call of `are_renamed_items` in src/comparing.rt.
use Rattle.std.proofs.Common.{length}
use Rattle.tb_lsp_edits.proofs.comparing.+are_renamed_items.Given as goal

abbrev pub decreases-are_renamed_items : goal.decreases-are_renamed_items
decreases-are_renamed_items l = length l.old.now
