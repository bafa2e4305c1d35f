-- Why `text_among` of src/checks.rt ends.
use Rattle.std.proofs.Common.{length}
use Rattle.tb_engine_files.proofs.checks.+text_among.Given as goal

abbrev pub decreases-text_among : goal.decreases-text_among
decreases-text_among l = length l.written.now
