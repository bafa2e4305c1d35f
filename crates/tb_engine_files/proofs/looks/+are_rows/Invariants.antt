-- Why `are_rows` of src/looks.rt ends.
use Rattle.std.proofs.Common.{length}
use Rattle.tb_engine_files.proofs.looks.+are_rows.Given as goal

abbrev pub decreases-are_rows : goal.decreases-are_rows
decreases-are_rows l = length l.text.now
