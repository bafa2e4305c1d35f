-- Why `has_address` of src/looks.rt ends.
use Rattle.std.proofs.Common.{length}
use Rattle.tb_engine_files.proofs.looks.+has_address.Given as goal

abbrev pub decreases-has_address : goal.decreases-has_address
decreases-has_address l = length l.text.now
