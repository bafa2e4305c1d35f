-- Why `clashes` of src/places.rt ends.
use Rattle.std.proofs.Common.{length}
use Rattle.tb_engine_files.proofs.places.+clashes.Given as goal

abbrev pub decreases-clashes : goal.decreases-clashes
decreases-clashes l = length l.written.now
