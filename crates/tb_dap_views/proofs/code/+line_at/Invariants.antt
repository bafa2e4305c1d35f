-- What decreases where `line_at` in src/code.rt calls itself.
use Rattle.std.proofs.Common.{length}
use Rattle.tb_dap_views.proofs.code.+line_at.Given as goal

abbrev pub decreases-line_at : goal.decreases-line_at
decreases-line_at l = length l.starts.now
