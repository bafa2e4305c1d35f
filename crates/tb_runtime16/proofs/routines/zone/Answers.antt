-- The goals of `zone` in src/routines.rt.
use Rattle.tb_runtime16.proofs.routines.zone.Goals as goal
use Rattle.tb_runtime16.proofs.ZoneRuns.{zone_law}

pub returns : goal.returns
returns c = zone_law
