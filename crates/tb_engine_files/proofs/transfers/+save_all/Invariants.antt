-- Why `save_all` of src/transfers.rt ends.
use Rattle.std.proofs.Common.{length}
use Rattle.tb_engine_files.proofs.transfers.+save_all.Given as goal

abbrev pub decreases-save_all : goal.decreases-save_all
decreases-save_all g l = length l.outputs.now
