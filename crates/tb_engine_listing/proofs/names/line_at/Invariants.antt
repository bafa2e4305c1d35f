-- What holds at each turn of the loop of `line_at` in src/names.rt.
use Rattle.std.proofs.Common.{◌≡◌, drop, map}
use Rattle.tb_compiled.specs.Compiled.{pair_of}
use Rattle.tb_engine_listing.specs.PlaceNames.{line_at}
use Rattle.tb_engine_listing.proofs.names.line_at.Given as goal

abbrev pub invariant-loop-start : goal.invariant-loop-start
invariant-loop-start l = line_at (map pair_of (drop l.start-index l.starts)) l.at ≡ line_at (map pair_of l.starts) l.at
