-- What decreases where `some_leaves` in src/breaks.rt calls itself.
use Rattle.std.proofs.Common.{length}
use Rattle.tb_compiler_templates.proofs.breaks.+some_leaves.Given as goal

abbrev pub decreases-some_leaves : goal.decreases-some_leaves
decreases-some_leaves l = length l.groups.now
