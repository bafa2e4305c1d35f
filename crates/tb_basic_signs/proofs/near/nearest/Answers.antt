-- The goals of `nearest` in src/near.rt.
use Rattle.std.proofs.lemmas.Grind.{common_steps}
use Rattle.std.proofs.Common.{arith}
use Rattle.tb_basic_signs.specs.Near.{nearest_from}
use Rattle.tb_basic_signs.proofs.near.nearest.Goals as goal

pub loop-control-preserved : goal.loop-control-preserved
unfolding nearest_from
loop-control-preserved c = grind (arith, common_steps)

pub returns : goal.returns
unfolding nearest_from
returns c = grind (arith, common_steps)
