-- The goal of `nothing_is_lost` in src/putting.rt.
use Rattle.tb_engine_files.proofs.Safe.{nothing_is_lost}
use Rattle.tb_engine_files.proofs.putting.nothing_is_lost.Goals as goal

pub returns : goal.returns
returns c = nothing_is_lost
