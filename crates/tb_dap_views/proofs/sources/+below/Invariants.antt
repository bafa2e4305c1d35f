-- What decreases where `below` in src/sources.rt calls itself.
use Rattle.std.proofs.Common.{length}
use Rattle.tb_dap_views.proofs.sources.+below.Given as goal

abbrev pub decreases-below : goal.decreases-below
decreases-below l = length l.starts.now
