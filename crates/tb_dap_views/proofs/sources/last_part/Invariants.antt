-- What holds at each turn of the loop of `last_part` in src/sources.rt.
use Rattle.std.proofs.Common.{◌≡◌, drop}
use Rattle.tb_dap_views.specs.Sources.{last_part}
use Rattle.tb_dap_views.proofs.sources.last_part.Given as goal

abbrev pub invariant-loop-i : goal.invariant-loop-i
invariant-loop-i l = last_part l.found (drop l.i l.path) ≡ last_part l.path l.path
