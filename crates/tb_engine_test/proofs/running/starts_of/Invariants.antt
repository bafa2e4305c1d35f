-- What holds at each turn of the loop of `starts_of` in src/running.rt.
use Rattle.std.proofs.Common.{◌≡◌, map, take}
use Rattle.tb_compiled.specs.Compiled.{pair_of}
use Rattle.tb_engine_profile_table.specs.Rows.{start_pair}
use Rattle.tb_engine_test.proofs.running.starts_of.Given as goal

abbrev pub invariant-loop-start : goal.invariant-loop-start
invariant-loop-start l = map start_pair l.starts.items ≡ map pair_of (take l.start-index l.given)
