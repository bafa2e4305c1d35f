-- What `seed_from` in src/words.rt calls itself with: fewer digits.
use Rattle.std.proofs.Common.{length}
use Rattle.tb_basic_options.proofs.words.+seed_from.Given as goal

abbrev pub decreases-seed_from : goal.decreases-seed_from
decreases-seed_from l = length l.digits.now
