-- What decreases where `push_code` in src/readings.rt calls itself.
use Rattle.tb_debug.proofs.readings.+push_code.Given as goal

abbrev pub decreases-push_code : goal.decreases-push_code
decreases-push_code l = l.count
