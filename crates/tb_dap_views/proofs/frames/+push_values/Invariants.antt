-- What decreases where `push_values` in src/frames.rt calls itself.
use Rattle.std.proofs.Common.{length}
use Rattle.tb_dap_views.proofs.frames.+push_values.Given as goal

abbrev pub decreases-push_values : goal.decreases-push_values
decreases-push_values l = length l.frames.now
