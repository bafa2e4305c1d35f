-- What decreases where `behind_spaces` in src/header.rt calls itself.
use Rattle.std.proofs.Common.{length}
use Rattle.tb_editor_frames.proofs.header.+behind_spaces.Given as goal

abbrev pub decreases-behind_spaces : goal.decreases-behind_spaces
decreases-behind_spaces l = length l.text.now
