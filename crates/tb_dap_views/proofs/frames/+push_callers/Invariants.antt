-- What decreases where `push_callers` in src/frames.rt calls itself.
use Rattle.std.proofs.Common.{length}
use Rattle.tb_dap_views.proofs.frames.+push_callers.Given as goal

abbrev pub decreases-push_callers : goal.decreases-push_callers
decreases-push_callers l = length l.returns.now
