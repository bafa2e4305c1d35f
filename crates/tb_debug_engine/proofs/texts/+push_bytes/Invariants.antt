-- What decreases where `push_bytes` in src/texts.rt calls itself.
use Rattle.std.proofs.Common.{length}
use Rattle.tb_debug_engine.proofs.texts.+push_bytes.Given as goal

abbrev pub decreases-push_bytes : goal.decreases-push_bytes
decreases-push_bytes l = length l.bytes.now
