-- What decreases when `begins_with` in src/scans.rt calls itself.
use Rattle.std.proofs.Common.{length}
use Rattle.tb_parser.proofs.scans.+begins_with.Given as goal

abbrev pub decreases-begins_with : goal.decreases-begins_with
decreases-begins_with l = length l.word.now
