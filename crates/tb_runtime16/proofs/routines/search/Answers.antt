-- The goals of `search` in src/routines.rt.
use Rattle.tb_runtime16.proofs.routines.search.Goals as goal
use Rattle.tb_runtime16.proofs.SearchRuns.{search_law}

pub returns : goal.returns
returns c = search_law
