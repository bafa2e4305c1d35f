-- What decreases where `last_number` in src/sources.rt calls itself.
use Rattle.std.proofs.Common.{length}
use Rattle.tb_dap_views.proofs.sources.+last_number.Given as goal

abbrev pub decreases-last_number : goal.decreases-last_number
decreases-last_number l = length l.starts.now
