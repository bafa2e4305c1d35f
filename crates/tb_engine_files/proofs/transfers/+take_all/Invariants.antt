-- Why `take_all` of src/transfers.rt ends.
use Rattle.std.proofs.Common.{length}
use Rattle.tb_engine_files.proofs.transfers.+take_all.Given as goal

abbrev pub decreases-take_all : goal.decreases-take_all
decreases-take_all g l = length l.inputs.now
