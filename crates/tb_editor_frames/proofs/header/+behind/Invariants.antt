-- What decreases where `behind` in src/header.rt calls itself.
use Rattle.std.proofs.Common.{length}
use Rattle.tb_editor_frames.proofs.header.+behind.Given as goal

abbrev pub decreases-behind : goal.decreases-behind
decreases-behind l = length l.name.now
